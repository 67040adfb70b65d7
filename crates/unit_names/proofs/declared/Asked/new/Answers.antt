use Rattle.unit_names.proofs.declared.Asked.new.Goals as goal

pub returns-clause-asked : goal.returns-clause-asked
returns-clause-asked c = λ syntax results. record { linkages = c.in_ok-linkages.ensures.linkages syntax results; firsts = c.no_firsts.ensures syntax results }
