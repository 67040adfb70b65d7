-- Lists of members that are being gone through, taken from the end.
use Rattle.std.proofs.Common.{◌≡◌, cond, Bool, true, false, List, [], ◌∷◌, ◌++◌, Option, Some, IfSome, All, sym, subst}
use Rattle.std.specs.Prelude.{option_to_list}
use Rattle.std.proofs.lemmas.List.Elements.{All-pop, All-push, All-weaker}
use Rattle.c_results.specs.declared.made.Made.{Made}
use Rattle.tree_reads.specs.declared.syntax.Syntax.{Syntax}
use Rattle.c_structures.specs.declared.lists.OpenList.{OpenList}
use Rattle.c_senses.specs.Tree.{children_at}
use Rattle.tree_reads.specs.Sources.{source_read}
use Rattle.c_structures.specs.declared.lists.MemberLists.{MemberLists}
use Rattle.c_structures.specs.Listed.{IsOpen, AreLists}
use Rattle.c_structures.proofs.Covering.{covers_more}

module _ (syntax : Syntax) (results : List Made) where
  abbrev pub IsKept : OpenList → Type 0
  IsKept o = IsOpen syntax results o.list o.before

  pub front_kept : (old new : List OpenList) (r : Option OpenList) → old ≡ new ++ option_to_list r → All IsKept old → All IsKept new
  front_kept old new r e are = (All-pop IsKept old new r e are).0

  pub last_kept : (old new : List OpenList) (r : Option OpenList) (last : OpenList) → old ≡ new ++ option_to_list r → r ≡ Some last → All IsKept old → IsKept last
  last_kept old new r last e is are = subst (λ (o : Option OpenList). IfSome o IsKept) is (All-pop IsKept old new r e are).1

  pub put_back : (b : Bool) (old new : List OpenList) (last : OpenList) → new ≡ cond b (old ++ last ∷ []) old → All IsKept old → IsKept last → All IsKept new
  put_back true old new last e are is = subst (All IsKept) (sym e) (All-push IsKept old last are is)
  put_back false old new last e are is = subst (All IsKept) (sym e) are

-- what is kept stays right while more is made
pub lists_more : (syntax : Syntax) (results : List Made) (m : Made) (lists : MemberLists) → AreLists syntax results lists → AreLists syntax (results ++ m ∷ []) lists
lists_more syntax results m lists are =
    All-weaker (IsKept syntax results) (IsKept syntax (results ++ m ∷ []))
    (λ o kept. record {
      whole = covers_more results m (children_at (source_read syntax) o.list) o.before.whole kept.whole;
      whole_ascends = kept.whole_ascends;
      part = covers_more results m (children_at (source_read syntax) o.before.member) o.before.part kept.part;
      part_ascends = kept.part_ascends;
    }) lists.open.items are
