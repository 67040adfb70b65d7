use Rattle.std.proofs.Common.{Result, Ok, Err, [], refl, sym, get_or, append-nil}
use Rattle.std.specs.Result.{IfOk}
use Rattle.c_mentions.specs.declared.roles.Role.TheVariants.{Elsewhere, Name}
use Rattle.c_mentions.specs.Kept.{with_role}
use Rattle.c_mentions.specs.Syntax.{nodes_of}
use Rattle.c_mentions.proofs.Handing.{gives_stands}
use Rattle.c_mentions.proofs.settings.hand_down.Goals as goal

if_ok : {T E : Type 0} (r : Result T E) (P Q : T → Type 0) → IfOk r P → ((x : T) → P x → Q x) → IfOk r Q
if_ok (Ok x) P Q h f = f x h
if_ok (Err e) P Q h f = tt

-- a node that stands elsewhere gives its children its own setting
pub returns-then-is_elsewhere : goal.returns-then-is_elsewhere
returns-then-is_elsewhere c = λ d.
    let setting = get_or c.args.list.now c.args.node d in
    record {
      within = setting;
      extends = ([], sym (append-nil c.args.scopes.now.items));
      stands = λ s stands. gives_stands c.args.tokens.now (nodes_of c.args.nodes.now) c.args.node Elsewhere c.args.scopes.now.items setting setting s c.in-Elsewhere.ensures refl refl (c.if-is_elsewhere.ensures refl d) stands;
      hands = c.hand_same.ensures d;
    }

pub returns-else-is_elsewhere : goal.returns-else-is_elsewhere
returns-else-is_elsewhere c = if_ok c.hand_role.result _ _ c.hand_role.ensures (λ done f d.
    let setting = get_or c.args.list.now c.args.node d in
    record {
      within = with_role setting Elsewhere;
      extends = ([], sym (append-nil c.args.scopes.now.items));
      stands = λ s stands. gives_stands c.args.tokens.now (nodes_of c.args.nodes.now) c.args.node Elsewhere c.args.scopes.now.items setting (with_role setting Elsewhere) s c.in-Elsewhere.ensures refl refl refl stands;
      hands = f d;
    })

pub returns-in-Name : goal.returns-in-Name
returns-in-Name c = if_ok c.hand_role-in-Name.result _ _ c.hand_role-in-Name.ensures (λ done f d.
    let setting = get_or c.args.list.now c.args.node d in
    record {
      within = with_role setting Name;
      extends = ([], sym (append-nil c.args.scopes.now.items));
      stands = λ s stands. gives_stands c.args.tokens.now (nodes_of c.args.nodes.now) c.args.node Name c.args.scopes.now.items setting (with_role setting Name) s c.in-Name.ensures refl refl refl stands;
      hands = f d;
    })
