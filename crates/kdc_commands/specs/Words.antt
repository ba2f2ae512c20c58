-- What the words after the program's name ask for (own choice).
use Rattle.std.specs.Prelude.{ℕ, ◌≤◌, ◌==◌, pos, List, [], ◌∷◌, codes, if◌then◌else◌, Option, None, Some, option_map}
use Rattle.kdc_prelude.specs.Steps.{◌>>=◌}
use Rattle.kdc_prelude.specs.Texts.{same_text}
use Rattle.krb_names.specs.Decimals.{decimal_reading}
use Rattle.krb_names.specs.Etypes.{etype_numbered}
use Rattle.krb_names.specs.declared.etype.Etype.{Etype}
use Rattle.kdc_commands.specs.declared.words.Command.{Command}
use Rattle.kdc_commands.specs.declared.words.Command.TheVariants.{Print, Serve}
use Rattle.kdc_commands.specs.declared.words.Derivation.{Derivation}
use Rattle.kdc_commands.specs.declared.words.Job.{Job}
use Rattle.kdc_commands.specs.declared.words.Job.TheVariants.{Over, Derive}
use Rattle.kdc_commands.specs.declared.words.Task.{Task}
use Rattle.kdc_commands.specs.declared.words.Task.TheVariants.{Ask, Explain}

-- the task, where DIR alone follows its word
abbrev pub over_with : List (List ℕ) → Task → Option Command
over_with (dir ∷ []) task = Some (Print (Over task))
over_with _ _ = None

-- 17 or 18
abbrev pub etype_of : List ℕ → Option Etype
etype_of word = decimal_reading 18 word >>= λ number. etype_numbered (pos number)

-- 1 to 1,000,000
abbrev pub rounds_of : List ℕ → Option ℕ
rounds_of word = decimal_reading 1000000 word >>= λ rounds. if rounds == 0 then None else Some rounds

-- a salt and a password, and what was read before them
abbrev pub derivation_of : Option Etype → Option ℕ → List (List ℕ) → Option Derivation
derivation_of etype rounds (salt ∷ password ∷ []) = etype >>= λ e. rounds >>= λ n. Some (record { etype = e; rounds = n; salt = salt; password = password })
derivation_of _ _ _ = None

-- ETYPE ROUNDS SALT PASSWORD
abbrev pub derive_with : List (List ℕ) → Option Command
derive_with (etype ∷ rounds ∷ texts) = option_map (λ from. Print (Derive from)) (derivation_of (etype_of etype) (rounds_of rounds) texts)
derive_with _ = None

-- 1 to 65,535
abbrev pub port_of : List ℕ → Option ℕ
port_of word = decimal_reading 65535 word >>= λ port. if port == 0 then None else Some port

-- 1 to 1,000,000
abbrev pub callers_of : List ℕ → Option ℕ
callers_of word = decimal_reading 1000000 word >>= λ callers. if callers == 0 then None else Some callers

-- DIR: one caller
abbrev pub answer_with : List (List ℕ) → Option Command
answer_with (dir ∷ []) = Some (Serve 1)
answer_with _ = None

-- both were read
abbrev pub serving : Option ℕ → Option ℕ → Option Command
serving (Some port) (Some callers) = Some (Serve callers)
serving _ _ = None

-- CALLERS, after a port
abbrev pub serve_to : Option ℕ → List (List ℕ) → Option Command
serve_to port (callers ∷ []) = serving port (callers_of callers)
serve_to port _ = None

-- PORT CALLERS
abbrev pub serve_at : List (List ℕ) → Option Command
serve_at [] = None
serve_at (port ∷ rest) = serve_to (port_of port) rest

-- DIR PORT CALLERS
abbrev pub serve_with : List (List ℕ) → Option Command
serve_with [] = None
serve_with (dir ∷ rest) = serve_at rest

-- `ask DIR`, `explain DIR`, `answer DIR`, `serve DIR PORT CALLERS`, `derive ETYPE ROUNDS SALT PASSWORD`
abbrev pub command_of : List (List ℕ) → Option Command
command_of [] = None
command_of (word ∷ rest) =
    if same_text word (codes "ask") then over_with rest Ask
    else (if same_text word (codes "explain") then over_with rest Explain
    else (if same_text word (codes "answer") then answer_with rest
    else (if same_text word (codes "serve") then serve_with rest
    else (if same_text word (codes "derive") then derive_with rest
    else None))))

-- a key is derived with at least one round
abbrev pub HasRounds : Job → Type 0
HasRounds (Over _) = Unit {0}
HasRounds (Derive derivation) = 1 ≤ derivation.rounds

-- and at most 1,000,000 callers are served
abbrev pub IsWithinLimits : Command → Type 0
IsWithinLimits (Print job) = HasRounds job
IsWithinLimits (Serve callers) = callers ≤ 1000000
