-- What the questions of `ask` are, and what is printed for them (own choice).
use Rattle.std.specs.Prelude.{ℕ, ◌==◌, ◌||◌, not, nat_lt, List, [], ◌∷◌, ◌++◌, length, codes, if◌then◌else◌, Option, None, Some, Result, Ok, Err, flat_map, option_and_then}
use Rattle.std.specs.List.{slice_split}
use Rattle.std.specs.Str.{is_utf8}
use Rattle.kdc_prelude.specs.Lines.{lines_of}
use Rattle.kdc_prelude.specs.Texts.{same_text}
use Rattle.krb_names.specs.Principals.{name_reading}
use Rattle.krb_names.specs.Spns.{spn_reading}
use Rattle.krb_names.specs.declared.refusal.NameRefusal.{NameRefusal}
use Rattle.krb_names.specs.declared.principal.Principal.{Principal}
use Rattle.dir_records.specs.DirectoryValue.{DirectoryValue}
use Rattle.kdc_records.specs.RuleNames.{name_of}
use Rattle.s4u_rules.specs.AskSelf.{self_answer, self_question as asked_to_self}
use Rattle.s4u_rules.specs.AskClassic.{classic_answer, classic_question as asked_to_target}
use Rattle.s4u_rules.specs.declared.asked.Asked.{Asked}
use Rattle.s4u_rules.specs.declared.asked.Asked.TheVariants.{Forwardable, Allowed, Deny}
use Rattle.kdc_commands.specs.declared.question.Question.{Question}
use Rattle.kdc_commands.specs.declared.question.Question.TheVariants.{ToSelf, Classic}

-- both names read
abbrev pub self_question : Result Principal NameRefusal → Result Principal NameRefusal → Option Question
self_question (Ok service) (Ok user) = Some (ToSelf service user)
self_question (Ok service) (Err fault) = None
self_question (Err fault) user = None

-- both names and the SPN read
abbrev pub classic_question : Result Principal NameRefusal → Result Principal NameRefusal → Result (List ℕ) NameRefusal → Option Question
classic_question (Ok service) (Ok user) (Ok target) = Some (Classic service user target)
classic_question (Ok service) (Ok user) (Err fault) = None
classic_question (Ok service) (Err fault) target = None
classic_question (Err fault) user target = None

-- a line's words, with one space between
abbrev pub words_of : List ℕ → List (List ℕ)
words_of line = slice_split (λ b. b == 32) line

-- SERVICE USER
abbrev pub self_names : List (List ℕ) → Option Question
self_names (service ∷ user ∷ []) = self_question (name_reading service) (name_reading user)
self_names _ = None

-- SERVICE USER SPN
abbrev pub classic_names : List (List ℕ) → Option Question
classic_names (service ∷ user ∷ target ∷ []) = classic_question (name_reading service) (name_reading user) (spn_reading target)
classic_names _ = None

abbrev pub question_by_words : List (List ℕ) → Option Question
question_by_words [] = None
question_by_words (word ∷ names) =
    if same_text word (codes "self") then self_names names
    else (if same_text word (codes "classic") then classic_names names
    else None)

-- a line of at most 4,096 bytes that is UTF-8
abbrev pub readable : List ℕ → Option (List ℕ)
readable line = if nat_lt 4096 (length line) || not (is_utf8 line) then None else Some line

-- what a line asks, if it asks something
abbrev pub question_of : List ℕ → Option Question
question_of line = option_and_then (λ text. question_by_words (words_of text)) (readable line)

abbrev pub outcome_of : DirectoryValue → Question → Asked
outcome_of dir (ToSelf service user) = self_answer (asked_to_self dir service user)
outcome_of dir (Classic service user target) = classic_answer (asked_to_target dir service user target)

abbrev pub text_of : Asked → List ℕ
text_of Forwardable = codes "allow forwardable"
text_of Allowed = codes "allow"
text_of (Deny rule) = codes "deny " ++ name_of rule

abbrev pub answer_text : DirectoryValue → Option Question → List ℕ
answer_text dir None = codes "bad question"
answer_text dir (Some question) = text_of (outcome_of dir question)

-- the line that is printed for a line
abbrev pub answer_to : DirectoryValue → List ℕ → List ℕ
answer_to dir line = answer_text dir (question_of line) ++ 10 ∷ []

-- what is printed for the whole input
abbrev pub questions : DirectoryValue → List ℕ → List ℕ
questions dir input = flat_map (λ line. answer_to dir line) (lines_of input)
