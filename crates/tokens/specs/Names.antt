-- The name of a word, wherever it stands.
use Rattle.std.specs.Prelude.{ℕ, ◌+◌, List, take, drop}
use Rattle.std.specs.Char.{is_ascii_alphabetic}
use Rattle.std.specs.List.{prefix_len}

-- The name of the word whose backslash stands at a place: the longest run of letters after it, however long.
abbrev pub name_at : ℕ → List ℕ → List ℕ
name_at p bs = take (prefix_len is_ascii_alphabetic (drop (p + 1) bs)) (drop (p + 1) bs)
