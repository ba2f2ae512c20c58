-- Causes and places in words (own choice).
use Rattle.std.specs.Prelude.{ℕ, List, ◌++◌, codes, decimal}
use Rattle.dir_records.specs.declared.refusal.DirCause.{DirCause}
use Rattle.dir_records.specs.declared.refusal.DirCause.TheVariants.{NotJson, MissingField, BadField, Duplicate, SameKey, UnknownRef, TooMany, NoMemory}
use Rattle.dir_records.specs.declared.refusal.DirPlace.{DirPlace}
use Rattle.dir_records.specs.declared.refusal.DirPlace.TheVariants.{Whole, Realm, Account, Trust, Line}

abbrev pub cause_text : DirCause → List ℕ
cause_text NotJson = codes "NotJson"
cause_text MissingField = codes "MissingField"
cause_text BadField = codes "BadField"
cause_text Duplicate = codes "Duplicate"
cause_text SameKey = codes "SameKey"
cause_text UnknownRef = codes "UnknownRef"
cause_text TooMany = codes "TooMany"
cause_text NoMemory = codes "NoMemory"

-- realms are counted from 0; accounts and trusts of a realm, and lines, from 1
abbrev pub place_text : DirPlace → List ℕ
place_text Whole = codes "whole"
place_text (Realm i) = codes "realm " ++ decimal i
place_text (Account i n) = codes "realm " ++ decimal i ++ codes " account " ++ decimal n
place_text (Trust i n) = codes "realm " ++ decimal i ++ codes " trust " ++ decimal n
place_text (Line n) = codes "line " ++ decimal n
