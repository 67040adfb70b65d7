-- Units that are right for the same texts, one by one.
use Rattle.std.proofs.Common.{◌≡◌, ℕ, ◌+◌, List, [], ◌∷◌, subst}
use Rattle.core_tree.specs.declared.node.Unit.{Unit}
use Rattle.c_senses.specs.Tree.{Source}
use Rattle.c_senses.specs.Names.{source_of, numbered}
use Rattle.c_senses.specs.Right.{Right}
use Rattle.text_units.specs.passed.c_lower.PassedOn.{HasTags}
use Rattle.twin_report_laws.specs.outcome_laws.text_faults.Texts.{AreOfOneText, AreOfOneTexts}
use Rattle.text_units.specs.Answers.{NamedText}
use Rattle.text_units.specs.Lowered.{IsRightText, AreRightTexts}
use Rattle.report_cli.proofs.OneOutcome.{same_numbered}
use Rattle.text_units.proofs.Lowering.{cut_tokens}

pub one_text_units : (number : ℕ) (text : NamedText) (u v : Unit) → IsRightText number text u → IsRightText number text v → AreOfOneText number u v
one_text_units number text u v h k =
    let same : numbered h.tag_number (source_of h.tokens h.tree) ≡ numbered k.tag_number (source_of k.tokens k.tree) =
    same_numbered number text h.tokens k.tokens h.tree k.tree h.tag_number k.tag_number h.parsed k.parsed h.dense k.dense in
    let tags : HasTags (numbered k.tag_number (source_of k.tokens k.tree)) u = subst (λ (s : Source). HasTags s u) same h.tags in
    record {
      tokens = k.tokens;
      tree = k.tree;
      tag_number = k.tag_number;
      name = text.0;
      cut = cut_tokens number text k.tokens k.tree k.parsed;
      read = k.parsed.tree_is;
      right = subst (λ (s : Source). Right s text.0 u) same h.right;
      other_right = k.right;
      types = tags.types;
      other_types = k.tags.types;
      made = tags.made;
      other_made = k.tags.made;
      named = tags.named;
      other_named = k.tags.named;
    }

pub same_texts : (number : ℕ) (texts : List NamedText) (us vs : List Unit) → AreRightTexts number texts us → AreRightTexts number texts vs → AreOfOneTexts number us vs
same_texts number [] [] [] h k = tt
same_texts number [] [] (v ∷ vs) h k = absurd k
same_texts number [] (u ∷ us) vs h k = absurd h
same_texts number (text ∷ texts) [] vs h k = absurd h
same_texts number (text ∷ texts) (u ∷ us) [] h k = absurd k
same_texts number (text ∷ texts) (u ∷ us) (v ∷ vs) h k = (one_text_units number text u v h.0 k.0, same_texts (number + 1) texts us vs h.1 k.1)
