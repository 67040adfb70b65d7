-- Names without linkage and their initialisers fit.
use Rattle.std.proofs.Common.{◌≡◌, ◌<◌, inl, inr, ℕ, Bool, true, false, take, length, List, [], ◌∷◌, Option, Some, None, ◌||◌, eq-eqb, refl, sym, ap, ◌∙◌, subst}
use Rattle.std.specs.Prelude.{option_and_then, if◌then◌else◌}
use Rattle.c_lexer.specs.declared.Tokens.{Tokens}
use Rattle.c_grammar.specs.declared.trees.Tree.{Tree}
use Rattle.c_grammar.specs.Names.{no_names}
use Rattle.c_grammar.specs.Productions.{p_primary, p_enumerator}
use Rattle.c_grammar.specs.Terminals.{contains}
use Rattle.c_parser.specs.Parse.{begin}
use Rattle.c_parser.specs.c_units.Units.{IsUnit}
use Rattle.c_senses.specs.Tree.{Source, is_a, is_name, children_at, parent_of, paired}
use Rattle.c_senses.specs.Names.{source_of, numbered}
use Rattle.c_senses.specs.World.{Meaning}
use Rattle.c_senses.specs.Limits.{lacks_a_length}
use Rattle.c_senses.specs.Entities.{is_linked, is_internal, has_earlier_length, meaning_of, enumerated, declared_meaning}
use Rattle.c_senses.specs.Sense.{Sense, sense_in}
use Rattle.c_senses.specs.Rows.{AreSenses, world_at}
use Rattle.parsed_tree_laws.specs.sense_laws.Sound.{MeaningFits}
use Rattle.parsed_tree_laws.specs.sense_laws.Asked.{FirstFits}
use Rattle.parsed_tree_laws.proofs.placed_laws.Climbing.{Grown}
use Rattle.parsed_tree_laws.proofs.placed_laws.Growing.{grown_read}
use Rattle.declaration_laws.specs.declared_type_laws.passed.built_unit_laws.literal_types.PassedOn.{IsGrown}
use Rattle.declaration_laws.proofs.declared_type_laws.passed.built_unit_laws.literal_types.PassedOn.{in_list, parent_is}
use Rattle.parsed_tree_laws.specs.grown_parts.Parts.{IsBrought}
use Rattle.parsed_tree_laws.proofs.grown_parts.Reading.{units_bring}
use Rattle.declaration_laws.specs.name_order.Order.{IsNameOf, Own, Inner, Declares, Enumerates, Names, IsOrdered}
use Rattle.declaration_laws.proofs.name_order.Ordered.{units_ordered}
use Rattle.declaration_laws.proofs.declared_type_laws.linked_names.PassedOn.{SomeFits, no_value, plain_names_fit}
use Rattle.declaration_laws.proofs.declared_type_laws.linked_names.PassedOn.{objects_typed}
use Rattle.declaration_laws.proofs.declared_type_laws.linked_names.Fitting.{external_names_fit}
use Rattle.declaration_laws.specs.declared_type_laws.passed.built_unit_laws.literal_types.PassedOn.{types_declared}
use Rattle.valid_unit_laws.specs.object_initialiser_laws.internal_name_laws.text_rows.Texts.{TypesFit}
use Rattle.valid_unit_laws.specs.object_initialiser_laws.internal_name_laws.text_rows.Linked.{LinkedFit, RowsOfLinkedTexts}
use Rattle.valid_unit_laws.proofs.object_initialiser_laws.internal_name_laws.text_rows.Fitting.{grown, rows_of_texts}

named_of : (s : Source) (m leaf : ℕ) → IsNameOf s m leaf → is_name s leaf ≡ true
named_of s m leaf (Own k named) = named
named_of s m leaf (Inner {c = c} k is more) = named_of s c leaf more

module _ (s : Source) (senses : List Sense) (are : AreSenses s senses) (grew : IsGrown s) (tree : Grown s) (brought : IsBrought s) (ordered : IsOrdered s) (fit : LinkedFit s senses) where
  -- what a use means, by what declares its name
  use_fits : (i first x : ℕ) (m : Meaning) (d : ℕ) → Declares s d x → paired s.uses first ≡ Some x → is_linked s (sense_in senses) x ≡ false → (world_at s (take i senses) i).meaning first ≡ Some m → MeaningFits (types_declared s senses) m
  use_fits i first x m d (Names p is inside part named) pair plain e = plain_names_fit s senses i first x m pair plain (named_of s d x named) e
  use_fits i first x m d (Enumerates is inside) pair plain e =
      let f : ℕ → Sense = sense_in (take i senses) in
      let parent : parent_of s x ≡ Some d = parent_is s grew d x (in_list (children_at s d) x inside) in
      let means : meaning_of s f x ≡ enumerated s f d =
      ap (λ (o : Option ℕ). elim o as (λ _. Option Meaning) [ None ↦ None | Some p ↦ if is_a s p_enumerator p then enumerated s f p else declared_meaning s f x ]) parent
      ∙ ap (λ (b : Bool). if b then enumerated s f d else declared_meaning s f x) is in
      let same : enumerated s f d ≡ Some m = sym means ∙ (sym (ap (option_and_then (meaning_of s f)) pair) ∙ e) in
      subst (SomeFits (types_declared s senses)) same (no_value s f (types_declared s senses) d)

  first_fits : (i : ℕ) → i < length senses → is_a s p_primary i ≡ true → (children : List ℕ) → children_at s i ≡ children → FirstFits (world_at s (take i senses) i) (types_declared s senses) children
  first_fits i lt primary [] at = tt
  first_fits i lt primary (first ∷ rest) at = λ m e. by m (paired s.uses first) refl e
    where
      inside : contains (children_at s i) first ≡ true
      inside = ap (λ (l : List ℕ). contains l first) at ∙ ap (λ (b : Bool). b || contains rest first) (eq-eqb first first refl)

      by_linkage : (m : Meaning) (x : ℕ) → paired s.uses first ≡ Some x → is_linked s (sense_in senses) x ≡ true → (b : Bool) → is_internal s (sense_in senses) x ≡ b → (c : Bool) → has_earlier_length s (sense_in (take i senses)) x ≡ c
          → (world_at s (take i senses) i).meaning first ≡ Some m → MeaningFits (types_declared s senses) m
      by_linkage m x pair is true internal c waits e = fit.names i first rest x m lt primary at pair is (inl internal) e
      by_linkage m x pair is false plain true waits e = fit.names i first rest x m lt primary at pair is (inr waits) e
      by_linkage m x pair is false plain false waits e = external_names_fit s senses are grew tree brought ordered i first x m lt primary inside pair is plain waits e

      linked : (m : Meaning) (x : ℕ) → paired s.uses first ≡ Some x → (b : Bool) → is_linked s (sense_in senses) x ≡ b → (world_at s (take i senses) i).meaning first ≡ Some m → MeaningFits (types_declared s senses) m
      linked m x pair true is e = by_linkage m x pair is (is_internal s (sense_in senses) x) refl (has_earlier_length s (sense_in (take i senses)) x) refl e
      linked m x pair false is e = let made = ordered.uses first x i pair primary inside in use_fits i first x m made.0 made.2 pair is e

      by : (m : Meaning) (o : Option ℕ) → paired s.uses first ≡ o → (world_at s (take i senses) i).meaning first ≡ Some m → MeaningFits (types_declared s senses) m
      by m None pair e = absurd (let none : (world_at s (take i senses) i).meaning first ≡ None = ap (option_and_then (meaning_of s (sense_in (take i senses)))) pair in let f : ◌≡◌ {A = Option Meaning} None (Some m) = sym none ∙ e in cc)
      by m (Some x) pair e = linked m x pair (is_linked s (sense_in senses) x) refl e

  bool_cases : (P : Type 0) (b : Bool) → (b ≡ true → P) → (b ≡ false → P) → P
  bool_cases P true h k = h refl
  bool_cases P false h k = k refl

  pub types_fit : TypesFit s senses
  types_fit = record {
    names = λ i lt primary. first_fits i lt primary (children_at s i) refl;
    further = fit.further;
    objects = λ i lt p d leaf t actions is parent rest by_it name type placed.
        bool_cases _ (is_internal s (sense_in senses) leaf) (λ internal. fit.internals i lt p d leaf t actions is parent rest by_it name type placed internal)
        (λ plain.
        objects_typed s senses are grew tree brought i lt p d leaf t actions is parent rest by_it name type placed plain
        (bool_cases _ (lacks_a_length t) (λ lacks. inr (fit.initialisers i lt p d leaf t is parent rest by_it name type lacks)) (λ has. inl has)));
  }

pub tree_grown : (tokens : Tokens) (unit : ℕ) (tree : Tree) (tag_number : ℕ → ℕ) → IsUnit tokens unit tree → Grown (numbered tag_number (source_of tokens tree))
tree_grown tokens unit tree tag_number is = let read = is.0 in grown_read tokens tree tag_number (begin 0 no_names []) read.0 refl refl read.1 read.2

pub rows_of_linked_texts : RowsOfLinkedTexts
rows_of_linked_texts tokens unit tree tag_number name u cut is b fit =
    let s : Source = numbered tag_number (source_of tokens tree) in
    rows_of_texts tokens unit tree tag_number name u cut is b
    (types_fit s b.senses b.are_senses (grown tokens unit tree tag_number cut is) (tree_grown tokens unit tree tag_number is) (units_bring tokens unit tree tag_number is) (units_ordered tokens unit tree tag_number cut is) fit)
