-- What a directory is.
use Rattle.dir_records.specs.declared.records.Contents.{Contents}

-- realms in their order; the keys that accounts had, and the numbers that they had in a realm, which nobody gets again
abbrev pub DirectoryValue : Type 0
DirectoryValue = Contents
