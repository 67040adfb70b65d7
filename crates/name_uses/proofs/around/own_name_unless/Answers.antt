use Rattle.name_uses.proofs.around.own_name_unless.Goals as goal

pub returns-in-None : goal.returns-in-None
returns-in-None c = record { own = λ u v uses e. c.own_name.ensures u }
