-- Lemmas on steps of the current caller.
use Rattle.std.proofs.Common.{◌≡◌, ◌∙◌, ℕ, ◌+◌, ◌<◌, ◌≤◌, List, [], ◌++◌, take, length, refl, sym, ap, append_assoc, append-nil}
use Rattle.std.specs.Prelude.{Option, None, Some, Result, Ok, Err}
use Rattle.kdc_prelude.specs.Causes.{Rose}
use Rattle.kb_base.specs.Callers.{CallerValue, CallersValue, CurrentReads, CurrentWrites, ReadsCaller, WritesCaller}
use Rattle.kb_base.specs.Faults.{HasDeviceCause}
use Rattle.kb_base.specs.declared.fault.DeviceFault.{DeviceFault}
use Rattle.kb_base.specs.declared.fault.Failed.{Failed}
use Rattle.kdc_frames.specs.Moves.{CurrentMoves, Moves}
use Rattle.kdc_frames.specs.Pieces.{Gives, Takes, Fails, Lost}

abbrev Step : Type 1
Step = CallerValue → CallerValue → Type 0

-- no step
current_stays : (step : Step) → ((caller : CallerValue) → step caller caller) → (current : Option CallerValue) (old : CallersValue) → old.current ≡ current → CurrentMoves step current old old
current_stays step same None old e = tt
current_stays step same (Some caller) old e = (caller, ap (λ current. record old { current = current }) e, same caller)

pub moves_none : (step : Step) → ((caller : CallerValue) → step caller caller) → (told : Option CallersValue) → Moves step told told
moves_none step same None = tt
moves_none step same (Some old) = current_stays step same old.current old refl

-- two steps
current_moves_on : (first second both : Step) → ((a b c : CallerValue) → first a b → second b c → both a c)
    → (current : Option CallerValue) (old mid new : CallersValue) → CurrentMoves first current old mid → CurrentMoves second mid.current mid new → CurrentMoves both current old new
current_moves_on first second both join None old mid new p q = tt
current_moves_on first second both join (Some caller) old mid new p q =
    let is : mid.current ≡ Some p.0 = ap (λ (callers : CallersValue). callers.current) p.1 in
    let rest : CurrentMoves second (Some p.0) mid new = rw is at q in
    (rest.0, rest.1 ∙ ap (λ (callers : CallersValue). record callers { current = Some rest.0 }) p.1, join caller p.0 rest.0 p.2 rest.2)

pub moves_on : (first second both : Step) → ((a b c : CallerValue) → first a b → second b c → both a c)
    → (old mid new : Option CallersValue) → Moves first old mid → Moves second mid new → Moves both old new
moves_on first second both join None mid new p q = tt
moves_on first second both join (Some old) None new p q = absurd p
moves_on first second both join (Some old) (Some mid) None p q = absurd q
moves_on first second both join (Some old) (Some mid) (Some new) p q = current_moves_on first second both join old.current old mid new p q

-- a step that is another one too
current_moves_as : (first second : Step) → ((a b : CallerValue) → first a b → second a b) → (current : Option CallerValue) (old new : CallersValue) → CurrentMoves first current old new → CurrentMoves second current old new
current_moves_as first second turn None old new p = tt
current_moves_as first second turn (Some caller) old new p = (p.0, p.1, turn caller p.0 p.2)

pub moves_as : (first second : Step) → ((a b : CallerValue) → first a b → second a b) → (old new : Option CallersValue) → Moves first old new → Moves second old new
moves_as first second turn None new p = tt
moves_as first second turn (Some old) None p = absurd p
moves_as first second turn (Some old) (Some new) p = current_moves_as first second turn old.current old new p

-- what a read and a write do
current_reads : (count : ℕ) (buf : List ℕ) (current next : Option CallerValue) (old new : CallersValue) → new ≡ record old { current = next }
    → CurrentReads {E = Failed} current next (Ok count) buf → CurrentMoves (Gives count buf) current old new
current_reads count buf None next old new e h = tt
current_reads count buf (Some caller) None old new e h = absurd h
current_reads count buf (Some caller) (Some after) old new e h =
    (after, e, record { bytes = h.bytes.0; end = h.bytes.1; sent = h.sent; faults = h.cause.kept })

pub reads : (count : ℕ) (buf : List ℕ) (old new : Option CallersValue) → ReadsCaller {E = Failed} old new (Ok count) buf → Moves (Gives count buf) old new
reads count buf None new h = tt
reads count buf (Some old) None h = absurd h
reads count buf (Some old) (Some new) h = current_reads count buf old.current new.current old new h.0 h.1

current_reads_not : (fault : Failed) (buf : List ℕ) (current next : Option CallerValue) (old new : CallersValue) → new ≡ record old { current = next }
    → CurrentReads current next (Err fault) buf → CurrentMoves Lost current old new
current_reads_not fault buf None next old new e h = tt
current_reads_not fault buf (Some caller) None old new e h = absurd h
current_reads_not fault buf (Some caller) (Some after) old new e h =
    (after, e, record { left_so = h.bytes; sent = h.sent; later = h.cause.later; faults = h.cause.failed })

pub reads_not : (fault : Failed) (buf : List ℕ) (old new : Option CallersValue) → ReadsCaller old new (Err fault) buf → Moves Lost old new
reads_not fault buf None new h = tt
reads_not fault buf (Some old) None h = absurd h
reads_not fault buf (Some old) (Some new) h = current_reads_not fault buf old.current new.current old new h.0 h.1

current_writes : (count : ℕ) (piece : List ℕ) (current next : Option CallerValue) (old new : CallersValue) → new ≡ record old { current = next }
    → CurrentWrites current next (Ok count) piece → CurrentMoves (Takes (take count piece)) current old new
current_writes count piece None next old new e h = tt
current_writes count piece (Some caller) None old new e h = absurd h
current_writes count piece (Some caller) (Some after) old new e h =
    (after, e, record { sent = h.bytes; left_so = h.left; faults = h.cause.failed })

pub writes : (count : ℕ) (piece : List ℕ) (old new : Option CallersValue) → WritesCaller old new (Ok count) piece → Moves (Takes (take count piece)) old new
writes count piece None new h = tt
writes count piece (Some old) None h = absurd h
writes count piece (Some old) (Some new) h = current_writes count piece old.current new.current old new h.0 h.1

current_writes_not : (fault : DeviceFault) (piece : List ℕ) (current next : Option CallerValue) (old new : CallersValue) → new ≡ record old { current = next }
    → CurrentWrites current next (Err fault) piece → CurrentMoves (Fails fault) current old new
current_writes_not fault piece None next old new e h = tt
current_writes_not fault piece (Some caller) None old new e h = absurd h
current_writes_not fault piece (Some caller) (Some after) old new e h =
    (after, e, record { sent = h.bytes; left_so = h.left; later = h.cause.later; faults = h.cause.failed })

pub writes_not : (fault : DeviceFault) (piece : List ℕ) (old new : Option CallersValue) → WritesCaller old new (Err fault) piece → Moves (Fails fault) old new
writes_not fault piece None new h = tt
writes_not fault piece (Some old) None h = absurd h
writes_not fault piece (Some old) (Some new) h = current_writes_not fault piece old.current new.current old new h.0 h.1
