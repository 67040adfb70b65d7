-- Names and tags of inner scopes, and what stands around them, written by hand from C11.
use Rattle.std.specs.Prelude.{[], ◌∷◌, Some, None, codes, pos, false}
use Rattle.pta_base.specs.declared.kind.Kind.TheVariants.{Operand, StructureCast}
use Rattle.c_types.specs.Trees.{BoolType, PointerTo, ArrayOf, StructureOf, UnionOf}
use Rattle.core_tree.specs.declared.node.Op.TheVariants.{Plus, Equal}
use Rattle.core_tree.specs.declared.node.NodeKind.TheVariants.{Switch, Case, Skip}
use Rattle.core_tree.specs.Rows.{int, long, character}
use Rattle.sense_cases.specs.Cores.{S, ints, takes_more, of_void, block, HasBody, IsRefused, read, object, number}
use Rattle.sense_cases.specs.Cores.{member, deref, moved, decayed, changed, computed, updated, called, expression}
use Rattle.sense_cases.specs.Cores.{returned, statement}
use Rattle.sense_cases.specs.Declared.{IsUnit, file_object, only_declared, tag, part}
use Rattle.sense_cases.specs.ScopeTexts as text

-- 6.2.1, 6.2.2p4, 6.2.3, 6.7.2.3, 6.8.4.2: a tag of an inner scope is another one, and a list of its own scope
-- completes a tag; cases have the type of the promoted value; an object hides what stands around it
pub record ScopesStand : Type 0 where
  pub inner_tag_differs : IsRefused text.inner_tag_differs StructureCast 25
  pub tag_completed_later : HasBody text.tag_completed_later
      (block (10 ∷ []) 6
      (expression 21
      (read
      (member 0 21 int (deref 21 (StructureOf 8) (read (object 10 20 (PointerTo (StructureOf 8)))))))
      ∷ []))
  pub inner_tag_list : HasBody text.inner_tag_list
      (block (23 ∷ []) 15
      (expression 26 (read (member 0 26 character (object 23 25 (StructureOf 17))))
      ∷ returned 29 (read (member 0 31 int (object 8 30 S))) ∷ []))
  pub tag_by_typedef : HasBody text.tag_by_typedef
      (block [] 22
      (returned 23
      (computed Equal 27 int
      (read
      (member 0 25 (PointerTo (StructureOf 3))
      (deref 25 (StructureOf 3) (read (object 20 24 (PointerTo (StructureOf 3)))))))
      (read (object 20 28 (PointerTo (StructureOf 3)))))
      ∷ []))
  pub array_in_union : HasBody text.array_in_union
      (block [] 22
      (returned 23
      (changed int
      (read
      (deref 27 character
      (moved false 27
      (decayed (PointerTo character)
      (member 1 25 (ArrayOf character (Some 4)) (object 20 24 (UnionOf 2))))
      (number 0 28 int)))))
      ∷ []))
  pub call_by_parameter : HasBody text.call_by_parameter
      (block [] 15
      (returned 16
      (called 18 int (read (object 7 17 (PointerTo takes_more)))
      (number 1 19 int ∷ number 2 21 long ∷ []))
      ∷ []))
  pub pointer_as_truth : HasBody text.pointer_as_truth
      (block [] 8 (returned 9 (changed BoolType (read (object 6 10 ints))) ∷ []))
  pub element_updated : HasBody text.element_updated
      (block [] 8
      (expression 13
      (updated Plus false 13
      (deref 10 long (moved false 10 (read (object 6 9 (PointerTo long))) (number 1 11 int)))
      (number 2 14 int))
      ∷ []))
  pub list_by_earlier : IsRefused text.list_by_earlier Operand 22
  pub element_in_static : IsRefused text.element_in_static Operand 25
  pub linked_within_static : HasBody text.linked_within_static
      (block [] 6 (block [] 11 (block [] 16 (expression 21 (read (object 19 21 int)) ∷ []) ∷ []) ∷ []))
  pub letter_case_again : IsRefused text.letter_case_again Operand 17
  pub wide_cases : HasBody text.wide_cases
      (block [] 7
      (statement Switch 8
      (changed int (read (object 5 10 character))
      ∷ block [] 12
      (statement (Case (pos 256)) 13 (statement Skip 16 [] ∷ [])
      ∷ statement (Case (pos 0)) 17 (statement Skip 20 [] ∷ []) ∷ [])
      ∷ [])
      ∷ []))
  pub long_cases : HasBody text.long_cases
      (block [] 7
      (statement Switch 8
      (read (object 5 10 long)
      ∷ block [] 12
      (statement (Case (pos 4294967296)) 13 (statement Skip 16 [] ∷ [])
      ∷ statement (Case (pos 0)) 17 (statement Skip 20 [] ∷ []) ∷ [])
      ∷ [])
      ∷ []))
  pub length_of_sizes : IsUnit text.length_of_sizes (file_object 2 (ArrayOf int (Some 2)) None ∷ []) []
  pub key_by_function : IsUnit text.key_by_function (only_declared 7 (of_void (StructureOf 1)) ∷ [])
      (tag 1 (part (codes "a") int ∷ []) (Some (codes "struct :f")) ∷ [])
