use Rattle.std.proofs.Common.{◌≡◌, ℕ, List, [], Contains, refl, sym, subst, inl, inr, arith}
use Rattle.sol_model.specs.declared.system.Constraint.{Constraint}
use Rattle.sol_model.specs.declared.system.Constraint.TheVariants.{Copy, Address}
use Rattle.edge_book.specs.Edges.{Gains}
use Rattle.edge_book.proofs.Gaining.{gains_same}
use Rattle.new_members.proofs.Through.{Through, OfAll, through_none, through_next, through_all}
use Rattle.new_members.proofs.starting.start.Goals as goal

abbrev IsCopy : Constraint → ℕ → ℕ → Type 0
IsCopy constraint a b = constraint ≡ Copy a b

abbrev IsAddress : Constraint → ℕ → ℕ → Type 0
IsAddress constraint a b = constraint ≡ Address a b

pub loop-i-init : goal.loop-i-init
loop-i-init c = record {
  book = through_none c.args.system.now.constraints IsCopy c.args.book.now;
  facts = subst (λ (xs : List (ℕ × ℕ)). Gains [] xs (Through c.args.system.now.constraints IsAddress 0)) (sym c.new-facts.ensures.items) (through_none c.args.system.now.constraints IsAddress []);
  once = λ h. h;
}

pub loop-i-preserved : goal.loop-i-preserved
loop-i-preserved c =
    let cs = c.args.system.now.constraints in record {
      book = through_next cs IsCopy c.args.book.now c.loop-i.book c.start_constraint.new.book c.loop-i.i c.constraint_at.result c.loop-i.invariant.book c.constraint_at.ensures.value c.in_ok-start_constraint.ensures.book;
      facts = through_next cs IsAddress [] c.loop-i.facts.items c.start_constraint.new.facts.items c.loop-i.i c.constraint_at.result c.loop-i.invariant.facts c.constraint_at.ensures.value c.in_ok-start_constraint.ensures.facts;
      once = λ h. c.start_constraint.ensures.once (c.loop-i.invariant.once h);
    }

pub returns-clause-book : goal.returns-clause-book
returns-clause-book c =
    let cs = c.args.system.now.constraints in
    gains_same c.args.book.now c.loop-i.book (OfAll cs IsCopy) (λ a b. Contains cs (Copy a b))
    (λ a b h. subst (Contains cs) h.2 h.1) (λ a b h. (Copy a b, h, refl))
    (through_all cs IsCopy c.args.book.now c.loop-i.book c.loop-i.i (let n = c.loop-i-test.false in let e = c.len-i-end.ensures in omega arith) c.loop-i.invariant.book)

pub returns-clause-facts : goal.returns-clause-facts
returns-clause-facts c =
    let cs = c.args.system.now.constraints in
    let g = through_all cs IsAddress [] c.loop-i.facts.items c.loop-i.i (let n = c.loop-i-test.false in let e = c.len-i-end.ensures in omega arith) c.loop-i.invariant.facts in
    λ row location. (
      λ h. elim ((g row location).0 h) [ inl none ↦ absurd (let l = none.1 in omega arith) | inr m ↦ subst (Contains cs) m.2 m.1 ],
      λ h. (g row location).1 (inr (Address row location, h, refl)),
    )
