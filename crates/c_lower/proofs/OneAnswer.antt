-- One answer for each text.
use Rattle.std.proofs.Common.{◌≡◌, ℕ, sym, ap, ◌∙◌, subst}
use Rattle.pta_base.specs.declared.kind.Kind.{Kind}
use Rattle.core_nodes.specs.declared.fault.CheckFault.{CheckFault}
use Rattle.core_nodes.specs.declared.fault.CheckFault.TheVariants.{BadOperand, Unsupported, OutOfMemory}
use Rattle.c_senses.specs.Tree.{Source}
use Rattle.c_senses.specs.Names.{numbered}
use Rattle.c_senses.specs.Rows.{RefusedAt}
use Rattle.parsed_tree_laws.proofs.reading_laws.source_laws.Reading.{one_refusal, not_right}
use Rattle.c_tags.specs.tag_numbers.Ordered.{AreInOrder}
use Rattle.c_lower.specs.unit_lowering.PassedOn.{RefusedIn}
use Rattle.c_lower.specs.Laws.{IsRefusal, OneAnswer}

-- numbers in the order of first specifiers are one numbering
same_numbers : (s : Source) (f g : ℕ → ℕ) → AreInOrder (numbered f s) → AreInOrder (numbered g s) → numbered f s ≡ numbered g s
same_numbers s f g a b = let same : f ≡ g = λ i d. (a.each d ∙ sym (b.each d)) i in ap (λ (h : ℕ → ℕ). numbered h s) same

-- a row of the source with such numbers refuses
abbrev Refuses : Source → Kind → ℕ → Type 0
Refuses s kind node = (f : ℕ → ℕ) × AreInOrder (numbered f s) × RefusedAt (numbered f s) kind node

renamed : (s : Source) (kind why : Kind) (node there : ℕ) → kind ≡ why → node ≡ there → RefusedAt s why there → RefusedAt s kind node
renamed s kind why node there e f h = subst (λ (k : Kind). RefusedAt s k node) (sym e) (subst (λ (n : ℕ). RefusedAt s why n) (sym f) h)

refuses : (s : Source) (fault : CheckFault) (kind : Kind) (node : ℕ) → IsRefusal fault kind node → RefusedIn s fault → Refuses s kind node
refuses s (BadOperand named) kind node is h = (h.0, h.1.ordered, renamed (numbered h.0 s) kind _ node named is.0 is.1 h.2)
refuses s (Unsupported why named) kind node is h = (h.0, h.1.ordered, renamed (numbered h.0 s) kind why node named is.0 is.1 h.2)
refuses s OutOfMemory kind node is h = absurd is

pub one_answer : OneAnswer
one_answer = record {
  either = λ s name u fault kind node h is no.
      let r = refuses s fault kind node is no in
      not_right (numbered h.tag_number s) name u kind node h.right (subst (λ (t : Source). RefusedAt t kind node) (same_numbers s r.0 h.tag_number r.1 h.dense.ordered) r.2);
  refusal = λ s fault other kind why node there is also h k.
      let r = refuses s fault kind node is h in
      let q = refuses s other why there also k in
      one_refusal (numbered q.0 s) kind why node there (subst (λ (t : Source). RefusedAt t kind node) (same_numbers s r.0 q.0 r.1 q.1) r.2) q.2;
}
