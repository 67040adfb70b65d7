use Rattle.std.proofs.Common.{bit_or}
use Rattle.std.proofs.lemmas.Nat.{le_or_l}
use Rattle.mod_ref.proofs.Rising.{word_room}
use Rattle.mod_ref.proofs.spreading.join_word.Goals as goal

pub returns-clause-less_room : goal.returns-clause-less_room
returns-clause-less_room c on =
    rw c.set.ensures (word_room c.args.rows.now.words c.args.at c.word_at-held.result (bit_or c.word_at-held.result c.args.word) c.requires c.word_at-held.ensures c.word_at-held.type_inv (le_or_l c.word_at-held.result c.args.word) c.if-joined-held.false)
