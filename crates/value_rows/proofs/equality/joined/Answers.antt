use Rattle.std.proofs.Common.{◌≡◌, ◌∙◌, Bool, true, false, sym, subst}
use Rattle.std.specs.Prelude.{if◌then◌else◌}
use Rattle.c_types.specs.Trees.{Ctype}
use Rattle.c_types.specs.Table.{type_of}
use Rattle.c_consts.specs.Core.{Core, ctype_of}
use Rattle.c_senses.specs.Given.{Given, Fits}
use Rattle.c_senses.specs.World.{same_type}
use Rattle.c_senses.specs.Nulls.{is_null}
use Rattle.c_senses.specs.Conversions.{null_value}
use Rattle.c_senses.specs.Operators.{Both}
use Rattle.core_nodes.specs.Standing.{core_at}
use Rattle.c_operators.specs.Seen.{BothGiven}
use Rattle.c_operators.specs.Joined.{pair, void_joined}
use Rattle.value_rows.proofs.equality.joined.Goals as goal

-- two pointers, by whether their types are one, and which of them is a null constant
abbrev chain : Core → Core → Given Both → Bool → Bool → Bool → Given Both
chain a b rest same right left =
    if same then Fits (pair a b) else if right then Fits (pair a (null_value (ctype_of a) b)) else if left then Fits (pair (null_value (ctype_of b) a) b) else rest

pub returns-then-is_null_constant-clause-joined : goal.returns-then-is_null_constant-clause-joined
returns-then-is_null_constant-clause-joined c =
    let u = c.args.unit.now in
    let a : Core = core_at u c.args.a in
    let b : Core = core_at u c.args.b in
    let x : Ctype = type_of u.types c.args.x.0 in
    let y : Ctype = type_of u.types c.args.y.0 in
    let rest : Given Both = void_joined c.args.at a b x y in
    let differ : same_type x y ≡ false = sym c.same_types.ensures ∙ c.if-same_types.false in
    let right : is_null b ≡ true = sym c.is_null_constant.ensures ∙ c.if-is_null_constant.true in
    subst (λ (t : Bool). BothGiven c.null_second.new.unit c.null_second.result (chain a b rest t (is_null b) (is_null a))) (sym differ)
    (subst (λ (t : Bool). BothGiven c.null_second.new.unit c.null_second.result (chain a b rest false t (is_null a))) (sym right) c.null_second.ensures.joined)

pub returns-then-is_null_constant-2-clause-joined : goal.returns-then-is_null_constant-2-clause-joined
returns-then-is_null_constant-2-clause-joined c =
    let u = c.args.unit.now in
    let a : Core = core_at u c.args.a in
    let b : Core = core_at u c.args.b in
    let x : Ctype = type_of u.types c.args.x.0 in
    let y : Ctype = type_of u.types c.args.y.0 in
    let rest : Given Both = void_joined c.args.at a b x y in
    let differ : same_type x y ≡ false = sym c.same_types.ensures ∙ c.if-same_types.false in
    let right : is_null b ≡ false = sym c.is_null_constant.ensures ∙ c.if-is_null_constant.false in
    let left : is_null a ≡ true = sym c.is_null_constant-2.ensures ∙ c.if-is_null_constant-2.true in
    subst (λ (t : Bool). BothGiven c.null_first.new.unit c.null_first.result (chain a b rest t (is_null b) (is_null a))) (sym differ)
    (subst (λ (t : Bool). BothGiven c.null_first.new.unit c.null_first.result (chain a b rest false t (is_null a))) (sym right)
    (subst (λ (t : Bool). BothGiven c.null_first.new.unit c.null_first.result (chain a b rest false false t)) (sym left) c.null_first.ensures.joined))

pub returns-clause-joined : goal.returns-clause-joined
returns-clause-joined c =
    let u = c.args.unit.now in
    let a : Core = core_at u c.args.a in
    let b : Core = core_at u c.args.b in
    let x : Ctype = type_of u.types c.args.x.0 in
    let y : Ctype = type_of u.types c.args.y.0 in
    let rest : Given Both = void_joined c.args.at a b x y in
    let differ : same_type x y ≡ false = sym c.same_types.ensures ∙ c.if-same_types.false in
    let right : is_null b ≡ false = sym c.is_null_constant.ensures ∙ c.if-is_null_constant.false in
    let left : is_null a ≡ false = sym c.is_null_constant-2.ensures ∙ c.if-is_null_constant-2.false in
    subst (λ (t : Bool). BothGiven c.void_joined.new.unit c.void_joined.result (chain a b rest t (is_null b) (is_null a))) (sym differ)
    (subst (λ (t : Bool). BothGiven c.void_joined.new.unit c.void_joined.result (chain a b rest false t (is_null a))) (sym right)
    (subst (λ (t : Bool). BothGiven c.void_joined.new.unit c.void_joined.result (chain a b rest false false t)) (sym left) c.void_joined.ensures.joined))
