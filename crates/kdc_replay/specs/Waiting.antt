-- Callers before a run.
use Rattle.std.specs.Prelude.{ℕ, List, [], None}
use Rattle.kb_base.specs.Callers.{CallersValue}

-- callers with these bytes, none of whom came yet
abbrev pub waiting : List (List ℕ) → CallersValue
waiting callers = record { gone = []; current = None; waiting = callers }
