use Rattle.std.proofs.Common.{sym}
use Rattle.items.proofs.Texts.{char_none, char_tails}
use Rattle.items.proofs.text.char_end.Goals as goal

pub returns-then-not-has_room : goal.returns-then-not-has_room
returns-then-not-has_room c = char_none _ _ _ c.requires (sym c.if-not-has_room.ensures)

pub returns : goal.returns
returns c = char_tails _ _ _ c.requires _ (sym c.if-not-has_room.ensures) c.tails_end.ensures
