-- Each entity is listed once at most.
use Rattle.std.proofs.Common.{◌≡◌, ℕ, Some}
use Rattle.std.proofs.lemmas.Option.{slice_get_within}
use Rattle.c_senses.specs.Names.{source_of, numbered}
use Rattle.c_senses.specs.Tree.{Source}
use Rattle.parsed_tree_laws.proofs.family_laws.Reading.{units_families}
use Rattle.parsed_tree_laws.proofs.span_laws.Whole.{units_are_spanned}
use Rattle.parsed_tree_laws.proofs.grown_parts.Reading.{units_bring}
use Rattle.declaration_laws.proofs.declared_type_laws.owner_laws.passed.definition_laws.linkage_laws.Reading.{tree_is}
use Rattle.declaration_laws.proofs.declared_type_laws.owner_laws.Whole.{grown_of, made_of}
use Rattle.valid_unit_laws.specs.object_initialiser_laws.listed_declarations.Listed.{AreApart}
use Rattle.valid_unit_laws.proofs.object_initialiser_laws.listed_declarations.Apart.{listed_apart}
use Rattle.valid_unit_laws.specs.object_initialiser_laws.listed_once.Once.{ListsOnce}
use Rattle.valid_unit_laws.proofs.object_initialiser_laws.listed_once.Nodes.{one_lister}
use Rattle.valid_unit_laws.proofs.object_initialiser_laws.listed_once.Places.{placed_once}

pub lists_once : ListsOnce
lists_once tokens unit tree tag_number name u cut is built laid e entity at =
    let s : Source = numbered tag_number (source_of tokens tree) in
    let grown = (tree_is tokens unit tree is tag_number).grown in
    let families = units_families tokens unit tree tag_number cut is in
    let apart : AreApart s built.senses = listed_apart tokens unit tree tag_number built.senses is built.are_senses in
    let lt = slice_get_within u.entities.items e entity at in
    let (d, what, declared, number) = built.no_other_entity e lt in
    let one : (x : ℕ) → built.numbering x ≡ Some e → x ≡ d = λ x h. built.entity_once x d e h number in
    record {
      each = λ a node there. record {
        places = λ has. placed_once s built.senses built.are_senses families grown (units_bring tokens unit tree tag_number is) apart d built.numbering u (grown_of tokens unit tree tag_number cut is) (made_of s name u built) e one a node there;
        others = λ has b other stands also. one_lister s built.senses built.numbering u grown apart (units_are_spanned tokens unit tree tag_number is) families laid e lt a b node other there stands has also;
      };
    }
