-- Tables that grow.
use Rattle.std.proofs.Common.{◌≡◌, ℕ, ◌+◌, ◌<◌, ◌≤◌, Some, None, length, refl, sym, ap, subst, ◌∙◌, arith, inl, inr}
use Rattle.std.proofs.lemmas.Bool.{cases_lt}
use Rattle.c_types.specs.Trees.{Ctype, NoTypes, MoreTypes, VoidType, BoolType, IntegerType, FloatingType, VaListType, PointerTo, ArrayOf, FunctionFrom, StructureOf, UnionOf}
use Rattle.c_types.specs.declared.term.Form.TheVariants.{Fixed}
use Rattle.c_types.specs.Table.{Table, type_of}
use Rattle.type_rules.specs.Sizes.{with_one, HasSignature}
use Rattle.unit_link.specs.link_program.Ready.{HasTree, IsReady, AreReady, IsGrown}

pub grown_self : (table : Table) → IsGrown table table
grown_self table = record { more = λ i l. l; kept = λ i l. refl; tags = refl; completed = refl }

pub grown_on : (a b c : Table) → IsGrown a b → IsGrown b c → IsGrown a c
grown_on a b c f g = record {
  more = λ i l. g.more i (f.more i l);
  kept = λ i l. g.kept i (f.more i l) ∙ f.kept i l;
  tags = g.tags ∙ f.tags;
  completed = g.completed ∙ f.completed;
}

pub tree_kept : (old now : Table) (t : Ctype) → IsGrown old now → HasTree old t → HasTree now t
tree_kept old now t g h = record { id = h.id; within = g.more h.id h.within; tree = g.kept h.id h.within ∙ h.tree }

pub signed_kept : (old now : Table) (t : Ctype) → IsGrown old now → HasSignature old t → HasSignature now t
signed_kept old now (FunctionFrom r NoTypes form) g h = (h.0, g.more h.0 h.1, g.kept h.0 h.1 ∙ h.2)
signed_kept old now (FunctionFrom r (MoreTypes s ss) form) g h = tt
signed_kept old now VoidType g h = tt
signed_kept old now BoolType g h = tt
signed_kept old now (IntegerType a b c) g h = tt
signed_kept old now FloatingType g h = tt
signed_kept old now VaListType g h = tt
signed_kept old now (PointerTo t) g h = tt
signed_kept old now (ArrayOf t n) g h = tt
signed_kept old now (StructureOf t) g h = tt
signed_kept old now (UnionOf t) g h = tt

pub ready_kept : (old now : Table) (t : Ctype) → IsGrown old now → IsReady old t → IsReady now t
ready_kept old now t g h = record { signed = signed_kept old now t g h.signed; one = tree_kept old now (with_one t) g h.one }

-- a signature needs nothing more
pub signature_ready : (table : Table) (i : ℕ) (given : Ctype) → i < length table.terms → type_of table i ≡ FunctionFrom given NoTypes Fixed → IsReady table (type_of table i)
signature_ready table i given lt e =
    subst (IsReady table) (sym e) (record { signed = (i, lt, e); one = record { id = i; within = lt; tree = e } })

-- nor does an array of one element
pub one_ready : (table : Table) (i : ℕ) (of : Ctype) → i < length table.terms → type_of table i ≡ ArrayOf of (Some 1) → IsReady table (type_of table i)
one_ready table i of lt e =
    subst (IsReady table) (sym e) (record { signed = tt; one = record { id = i; within = lt; tree = e } })

-- what a loop over the types has made ready
pub record ReadyTo (old now : Table) (upto : ℕ) : Type 0 where
  pub grown : IsGrown old now
  pub done : (i : ℕ) → i < upto → IsReady now (type_of now i)
  pub added : (i : ℕ) → length old.terms ≤ i → i < length now.terms → IsReady now (type_of now i)

pub ready_none : (table : Table) → ReadyTo table table 0
ready_none table = record { grown = grown_self table; done = λ i l. absurd (omega arith); added = λ i l m. absurd (omega arith) }

pub ready_more : (old before now : Table) (id : ℕ) → ReadyTo old before id → id < length old.terms → IsGrown before now → IsReady now (type_of now id)
    → ((i : ℕ) → length before.terms ≤ i → i < length now.terms → IsReady now (type_of now i)) → ReadyTo old now (id + 1)
ready_more old before now id h lt g here added = record {
  grown = grown_on old before now h.grown g;
  done = λ i l. elim (cases_lt i id) [
    | inl less ↦
        let within = h.grown.more i (omega arith) in
        subst (IsReady now) (sym (g.kept i within)) (ready_kept before now (type_of before i) g (h.done i less))
    | inr ge ↦
        let same : id ≡ i = omega arith in
        subst (λ n. IsReady now (type_of now n)) same here
  ];
  added = λ i low high. elim (cases_lt i (length before.terms)) [
    | inl less ↦ subst (IsReady now) (sym (g.kept i less)) (ready_kept before now (type_of before i) g (h.added i low less))
    | inr ge ↦ added i ge high
  ];
}

pub ready_all : (old now : Table) → ReadyTo old now (length old.terms) → AreReady now
ready_all old now h = record {
  each = λ i l. elim (cases_lt i (length old.terms)) [
    | inl less ↦ h.done i less
    | inr ge ↦ h.added i ge l
  ];
}

-- what is added by a signature and then more
pub added_ready : (mid now : Table) (n : ℕ) → ((i : ℕ) → n ≤ i → i < length mid.terms → (given : Ctype) × (type_of mid i ≡ FunctionFrom given NoTypes Fixed)) → IsGrown mid now
    → ((i : ℕ) → length mid.terms ≤ i → i < length now.terms → IsReady now (type_of now i)) → (i : ℕ) → n ≤ i → i < length now.terms → IsReady now (type_of now i)
added_ready mid now n signed g added i low high = elim (cases_lt i (length mid.terms)) [
  | inl less ↦
      let (given, e) = signed i low less in
      subst (IsReady now) (sym (g.kept i less)) (ready_kept mid now (type_of mid i) g (signature_ready mid i given less e))
  | inr ge ↦ added i ge high
]
