use Rattle.init_rows.proofs.rows.target_of.Goals as goal

pub returns-clause-target : goal.returns-clause-target
returns-clause-target c = λ u uses. record { static = c.is_static_object-is_static.ensures u; entity = c.entity_of-entity.ensures u uses; place = c.own_place-place.ensures }
