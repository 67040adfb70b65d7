use Rattle.std.proofs.Common.{rules, ◌≡◌, ◌<◌, ◌+◌, ◌++◌, ◌∷◌, [], List, ℕ, Option, length, take, sym, ◌∙◌, ap, subst, IfSome}
use Rattle.text_units.specs.Answers.{names_of, told_units}
use Rattle.report_cli.proofs.Told.{AreRead, read_more}
use Rattle.report_cli.proofs.reading.read_units.Goals as goal

pub loop-number-preserved : goal.loop-number-preserved
loop-number-preserved g c = record {
  read =
      let grown : c.push.new.self.items ≡ c.loop-number.texts.items ++ c.in-Ok.text.items ∷ [] = c.in_ok-push-in-Ok.ensures.items ∙ ap (λ (t : List ℕ). c.loop-number.texts.items ++ t ∷ []) c.of.ensures in
      let within : c.loop-number.number < length c.args.names.now = search rules in
      let last : IfSome (g.U.Units.text c.args.units.now c.name_at.result.now) (λ whole. c.in-Ok.text.items ≡ take c.args.limit whole) =
      subst (λ (told : Option (List ℕ)). IfSome told (λ whole. c.in-Ok.text.items ≡ take c.args.limit whole)) (c.loop-number.invariant.texts c.name_at.result.now) c.in-Ok.ensures.text in
      subst (λ (texts : List (List ℕ)). AreRead c.args.limit texts (told_units (g.U.Units.text c.args.units.now) (take (c.loop-number.number + 1) (names_of c.args.names.now)))) (sym grown)
      (read_more c.args.limit (g.U.Units.text c.args.units.now) c.args.names.now c.loop-number.number c.name_at.result.now
      c.loop-number.texts.items c.in-Ok.text.items within c.name_at.ensures c.loop-number.invariant.read last);
  count = search rules;
  texts = search rules;
  steady = search rules;
}
