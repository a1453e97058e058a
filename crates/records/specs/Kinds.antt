-- The kinds of content that a record encapsulates.
use Rattle.std.specs.Prelude.{ℕ, Bool, true, false, List, codes}
use Rattle.records.specs.declared.kinds.Kind.{Kind}
use Rattle.records.specs.declared.kinds.Kind.TheVariants.{Html, Text}

abbrev pub is_html : Kind → Bool
is_html Html = true
is_html Text = false

-- A kind in print.
abbrev pub name_of : Kind → List ℕ
name_of Html = codes "html"
name_of Text = codes "text"
