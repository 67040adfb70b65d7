-- What thinned lists of declarations give, by their leaves.
use Rattle.std.proofs.Common.{◌≡◌, ℕ, None, List, ap, ◌∙◌}
use Rattle.c_scope.specs.declared.kinds.Declared.{Declared}
use Rattle.c_senses.specs.Tree.{Source}
use Rattle.c_senses.specs.Names.{ordinary_at, before_in_scope}
use Rattle.c_senses.specs.World.{World}
use Rattle.c_senses.specs.Sense.{Sense}
use Rattle.c_senses.specs.Entities.{all_together, internal_before}
use Rattle.c_meanings.specs.Thinned.{IsThin}
use Rattle.c_named.specs.Lists.{leaves_of, all_of, types_at, some_defines}
use Rattle.c_named.proofs.Listing.{same_all, types_all, defines_all}
use Rattle.name_uses.specs.name_sayings.Listed.{GiveSame, GiveInternal}

module _ (w : World) (s : Source) (sense : ℕ → Sense) (leaf : ℕ) (leaves : List ℕ) where
  -- of some that give what those before a declaration in its scope give
  pub give_same : (thin : List Declared) → IsThin s sense (before_in_scope s (ordinary_at s leaf)) thin → leaves ≡ leaves_of thin → GiveSame w s sense leaf leaves
  give_same thin h e = λ t. ap (all_of s sense t) e ∙ (same_all w s sense t thin ∙ h.same w t)

  pub give_same_all : leaves ≡ leaves_of (before_in_scope s (ordinary_at s leaf)) → GiveSame w s sense leaf leaves
  give_same_all e = λ t. ap (all_of s sense t) e ∙ same_all w s sense t (before_in_scope s (ordinary_at s leaf))

  -- of some that give what those before a declaration with internal linkage give
  pub give_internal : (thin : List Declared) → IsThin s sense (internal_before w s sense leaf) thin → leaves ≡ leaves_of thin → GiveInternal w s sense leaf leaves
  give_internal thin h e = record {
    types = ap (λ (xs : List ℕ). all_together None (types_at s sense xs)) e ∙ (ap (all_together None) (types_all w s sense thin) ∙ h.together);
    defined = ap (some_defines s sense) e ∙ (defines_all w s sense thin ∙ h.defined w);
  }

  pub give_internal_all : leaves ≡ leaves_of (internal_before w s sense leaf) → GiveInternal w s sense leaf leaves
  give_internal_all e = record {
    types = ap (λ (xs : List ℕ). all_together None (types_at s sense xs)) e ∙ ap (all_together None) (types_all w s sense (internal_before w s sense leaf));
    defined = ap (some_defines s sense) e ∙ defines_all w s sense (internal_before w s sense leaf);
  }
