use Rattle.unit_walk.proofs.unit_choices.choices.no_choices.Goals as goal

pub returns : goal.returns
returns c = λ w s sense spelled. record { defaults = c.new.ensures.defaults w s sense; cases = c.new.ensures.cases w s sense; spelled = spelled }
