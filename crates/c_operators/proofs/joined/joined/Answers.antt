use Rattle.std.proofs.Common.{◌≡◌, ◌∙◌, Bool, false, cond, sym, subst}
use Rattle.c_types.specs.Trees.{Ctype}
use Rattle.c_types.specs.Table.{type_of}
use Rattle.c_senses.specs.Given.{Given, Fits}
use Rattle.c_senses.specs.World.{same_type}
use Rattle.c_senses.specs.Operators.{Both}
use Rattle.c_operators.specs.Seen.{BothGiven}
use Rattle.core_nodes.specs.Standing.{core_at}
use Rattle.c_operators.specs.Joined as spec
use Rattle.c_operators.proofs.joined.joined.Goals as goal

-- the types differ, so what is joined apart is what is joined
pub returns-clause-joined : goal.returns-clause-joined
returns-clause-joined c =
    let u = c.args.unit.now in
    let x : Ctype = type_of u.types c.args.x.0 in
    let y : Ctype = type_of u.types c.args.y.0 in
    let differ : same_type x y ≡ false = sym c.same_types.ensures ∙ c.if-same_types.false in
    let apart : Given Both = spec.apart_joined c.args.at (core_at u c.args.a) (core_at u c.args.b) x y in
    subst (λ (same : Bool). BothGiven c.apart_joined.new.unit c.apart_joined.result (cond same (Fits (spec.pair (core_at u c.args.a) (core_at u c.args.b))) apart)) (sym differ) c.apart_joined.ensures.joined
