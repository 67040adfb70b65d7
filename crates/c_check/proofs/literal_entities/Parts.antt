-- Entities with the same parts.
use Rattle.std.proofs.Common.{◌≡◌, ◌∙◌, ℕ, List, Option, None, ap}
use Rattle.pta_base.specs.declared.place.Place.{Place}
use Rattle.c_types.specs.declared.term.TypeId.{TypeId}
use Rattle.core_tree.specs.declared.node.Entity.{Entity}
use Rattle.core_tree.specs.declared.node.Linkage.TheVariants.{Local}
use Rattle.core_tree.specs.declared.node.Storage.{Storage}

pub same_entity : (unit : ℕ) (name name' : List ℕ) (place place' : Place) (ty ty' : TypeId) (storage storage' : Storage) (owner owner' body body' : Option ℕ)
    → name ≡ name' → place ≡ place' → ty ≡ ty' → storage ≡ storage' → owner ≡ owner' → body ≡ body'
    → ◌≡◌ {A = Entity} (record { name = name; unit = unit; place = place; ty = ty; linkage = Local; storage = storage; owner = owner; body = body; used = None })
    (record { name = name'; unit = unit; place = place'; ty = ty'; linkage = Local; storage = storage'; owner = owner'; body = body'; used = None })
same_entity unit name name' place place' ty ty' storage storage' owner owner' body body' e0 e1 e2 e3 e4 e5 =
    let R : List ℕ → Place → TypeId → Storage → Option ℕ → Option ℕ → Entity = λ n p t st o b. record { name = n; unit = unit; place = p; ty = t; linkage = Local; storage = st; owner = o; body = b; used = None } in
    ap (λ (x : List ℕ). R x place ty storage owner body) e0
    ∙ (ap (λ (x : Place). R name' x ty storage owner body) e1
    ∙ (ap (λ (x : TypeId). R name' place' x storage owner body) e2
    ∙ (ap (λ (x : Storage). R name' place' ty' x owner body) e3
    ∙ (ap (λ (x : Option ℕ). R name' place' ty' storage' x body) e4 ∙ ap (λ (x : Option ℕ). R name' place' ty' storage' owner' x) e5))))
