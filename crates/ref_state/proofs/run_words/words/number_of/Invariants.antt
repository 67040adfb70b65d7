use Rattle.std.proofs.Common.{◌≡◌, ◌<◌, ◌^◌, drop}
use Rattle.ref_state.specs.run_words.Words.{number_from}
use Rattle.ref_state.proofs.run_words.words.number_of.Given as goal

abbrev pub invariant-loop-digit : goal.invariant-loop-digit
invariant-loop-digit l = record {
  same : number_from l.number (drop l.digit-index l.digits) ≡ number_from 0 l.digits;
  fits : l.number < 2 ^ 64;
}
