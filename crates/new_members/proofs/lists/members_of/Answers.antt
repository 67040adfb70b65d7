use Rattle.std.proofs.Common.{◌↔◌, ℕ, [], All, Contains, Vec, Global}
use Rattle.sol_model.specs.Systems.{IsLocation}
use Rattle.new_members.specs.News.{IsIn}
use Rattle.new_members.proofs.Answering.{if_ok, all_of}
use Rattle.new_members.proofs.lists.members_of.Goals as goal

pub returns-clause-known : goal.returns-clause-known
returns-clause-known c =
    if_ok c.new_members.result (λ (list : Vec ℕ Global). (location : ℕ) → (Contains list.items location ↔ (IsIn c.row_words.result.now location × (IsIn [] location → ⊥)))) (λ (list : Vec ℕ Global). All (IsLocation c.args.system.now) list.items)
    (λ list has. all_of (IsLocation c.args.system.now) list.items (λ location h. c.requires.fits.no_others c.args.row location ((c.row_words.ensures.has location).1 ((has location).0 h).0)))
    c.new_members.ensures
