-- What stands from a cursor on.
use Rattle.std.specs.Prelude.{◌-◌, ℕ, List, length}
use Rattle.hv_text.specs.Words.{pieces_at}
use Rattle.hv_text.specs.Rests.{Rest, rest_from}
use Rattle.hv_text.specs.declared.at.Cursor.{Cursor}

-- the text that it stands in
abbrev pub text_at : Cursor → List ℕ
text_at c = c.text.now

abbrev pub rest_at : Cursor → Rest
rest_at c = rest_from c.depth (pieces_at c.text.now c.at)

-- how many bytes are left
abbrev pub left_at : Cursor → ℕ
left_at c = length c.text.now - c.at
