-- Null constants that are known without computing.
use Rattle.std.proofs.Common.{◌≡◌, ℤ, false, Some, refl, sym, ap}
use Rattle.core_tree.specs.declared.node.NodeKind.{NodeKind}
use Rattle.core_tree.specs.declared.node.NodeKind.TheVariants.{Number, NullValue, Choose, Convert, Arith}
use Rattle.core_tree.specs.declared.node.Op.{Op}
use Rattle.c_types.specs.Trees.{Ctype}
use Rattle.c_consts.specs.Core.{Core, kind_of, ctype_of}
use Rattle.c_consts.specs.Answer.{form_of}
use Rattle.c_senses.specs.Nulls.{is_null_pointer}
use Rattle.c_operators.specs.Joined.{null_by, null_known}

-- a node by its kind
pub known_by : (c : Core) (kind : NodeKind) → kind ≡ kind_of c → null_known c ≡ null_by (form_of kind (ctype_of c)) (is_null_pointer kind (ctype_of c))
known_by c kind e = ap (λ (k : NodeKind). null_by (form_of k (ctype_of c)) (is_null_pointer k (ctype_of c))) (sym e)

-- no other kind than these is that of a null constant
pub other_kind : (kind : NodeKind) (t : Ctype) → ((n : ℤ) → kind ≡ Number n → ⊥) → (kind ≡ NullValue → ⊥) → ((op : Op) → kind ≡ Arith op → ⊥) → (kind ≡ Choose → ⊥) → (kind ≡ Convert → ⊥) → null_by (form_of kind t) (is_null_pointer kind t) ≡ Some false
other_kind (Number n) t a b c d e = absurd (a n refl)
other_kind NullValue t a b c d e = absurd (b refl)
other_kind (Arith op) t a b c d e = absurd (c op refl)
other_kind Choose t a b c d e = absurd (d refl)
other_kind Convert t a b c d e = absurd (e refl)
other_kind kind t a b c d e = refl

pub ruleset nulls = (known_by, other_kind)
