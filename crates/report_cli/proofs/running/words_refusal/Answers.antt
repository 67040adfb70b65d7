use Rattle.std.proofs.Common.{arith, ◌<◌, length, subst}
use Rattle.ref_state.specs.declared.run_words.words.WordsFault.{WordsFault}
use Rattle.ref_state.specs.run_words.Words.{IsRefusal}
use Rattle.run_text.proofs.OneReading.{refused_within}
use Rattle.report_cli.proofs.running.words_refusal.Goals as goal

pub overflow_cast-at : goal.overflow_cast-at
overflow_cast-at c =
    let text = c.args.words.text.now in
    let R : WordsFault → Type 0 = λ fault. IsRefusal text fault in
    let within : c.in-Malformed.at < length text = refused_within text c.in-Malformed.at (subst R c.in-Malformed.is c.requires.refusal) in
    let short = c.requires.short in omega arith
