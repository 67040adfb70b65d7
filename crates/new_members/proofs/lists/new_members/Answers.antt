use Rattle.std.proofs.Common.{ℕ, ◌/◌, ◌<◌, ◌≤◌, length, Vec, Global}
use Rattle.new_members.specs.News.{IsIn}
use Rattle.new_members.proofs.Answering.{if_ok}
use Rattle.new_members.proofs.Bits.{Lists, listed_all}
use Rattle.new_members.proofs.lists.new_members.Goals as goal

pub returns : goal.returns
returns c =
    let words = c.args.words.now in
    let without = c.args.without.now in
    if_ok c.new_between.result (λ (list : Vec ℕ Global). Lists list.items (λ location. IsIn words location × (IsIn without location → ⊥) × (0 ≤ location / 64) × (location / 64 < length words)))
    (λ (list : Vec ℕ Global). Lists list.items (λ location. IsIn words location × (IsIn without location → ⊥)))
    (λ list all. listed_all words without list.items all) c.new_between.ensures
