-- How long tickets live (RFC 4120, section 3.1.3).
use Rattle.std.specs.Prelude.{ℕ, option_map, slice_get, unwrap_or}
use Rattle.dir_records.specs.DirectoryValue.{DirectoryValue}

-- the longest life of a ticket of the realm at an index, in seconds
abbrev pub longest_life : DirectoryValue → ℕ → ℕ
longest_life dir at = unwrap_or (option_map (λ realm. realm.max_life) (slice_get dir.realms at)) 0
