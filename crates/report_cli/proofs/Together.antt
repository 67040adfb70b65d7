-- Texts are refused together with one answer, and not where they are accepted.
use Rattle.std.proofs.Common.{◌≡◌, ◌∙◌, ◌⊎◌, ◌<◌, ◌≤◌, ◌^◌, ℕ, List, map, length, arith, inl, inr, sym, ap}
use Rattle.core_tree.specs.declared.node.Unit.{Unit}
use Rattle.core_tree.specs.declared.node.Program.{Program}
use Rattle.unit_link.specs.Linked.{LinkedAt}
use Rattle.obj_space.specs.Space.{locations_in}
use Rattle.obj_space.specs.View.{view_of}
use Rattle.constraints.specs.System.{IsWithin}
use Rattle.twin_report_laws.proofs.outcome_laws.text_faults.Texts.{one_text_fault}
use Rattle.text_units.specs.Answers.{NamedText, Answer}
use Rattle.report_cli.specs.Told.{Side, no_side, with_questions, with_words, Told}
use Rattle.text_units.specs.Lowered.{AreRightTexts}
use Rattle.report_cli.specs.Linking.{IsLinkRefusal, HaveManyNodes, HaveManyWords, link_refusal}
use Rattle.report_cli.specs.Outcome.{Denotes, AreRefusedTogether, Refuses, RefusesSide, RefusesTold}
use Rattle.report_cli.specs.Accepted.{TakesSide, AreAccepted}
use Rattle.report_cli.specs.Laws.{OneOutcome}
use Rattle.report_cli.proofs.OneOutcome.{one_text, one_first, none_right, denoted_right, together_right, refuses_right}
use Rattle.report_cli.proofs.ProgramSize.{linked_count, many, many_words, few}
use Rattle.report_cli.proofs.Twins.{same_texts}
use Rattle.report_cli.proofs.Taken.{taken_or_refused, words_taken_or_refused}

module _ (entries : List (List ℕ)) (texts : List NamedText) where
  abbrev names : List (List ℕ)
  names = map (λ (text : NamedText). text.0) texts

  -- one fault of linking
  linking : (one other : Answer) → IsLinkRefusal entries texts one → IsLinkRefusal entries texts other → one ≡ other
  linking one other h k =
      let same = one_text_fault.one h.units k.units h.fault k.fault (same_texts 0 texts h.units k.units h.right k.right) h.badly k.badly in
      h.answer_is ∙ (ap (link_refusal names) same ∙ sym k.answer_is)

  -- and none where a program is linked
  links_or_not : (units : List Unit) (program : Program) (answer : Answer) → AreRightTexts 0 texts units → LinkedAt entries units program → IsLinkRefusal entries texts answer → ⊥
  links_or_not units program answer right linked h = one_text_fault.none units h.units program h.fault (same_texts 0 texts units h.units right h.right) linked h.badly

  -- a program isn't both over the limit of nodes and over that of words
  nodes_or_words : (one other : Answer) → HaveManyNodes entries texts one → HaveManyWords entries texts other → ⊥
  nodes_or_words one other h k =
      let same : length h.program.nodes.items ≡ length k.program.nodes.items = linked_count entries texts h.units k.units h.program k.program h.right k.right h.own.linked k.own.linked in
      let over : 2 ^ 24 < length h.program.nodes.items = h.many.many in
      let within : length k.program.nodes.items ≤ 2 ^ 24 = k.many.few in
      absurd (omega arith)

  -- texts that denote a program are refused for a limit alone
  for_limits : (units : List Unit) (program : Program) (answer : Answer) → AreRightTexts 0 texts units → LinkedAt entries units program → AreRefusedTogether entries texts answer → HaveManyNodes entries texts answer ⊎ HaveManyWords entries texts answer
  for_limits units program answer right linked (inl h) = absurd (links_or_not units program answer right linked h)
  for_limits units program answer right linked (inr h) = h

  denoted : (program : Program) (answer : Answer) → Denotes entries texts program → Refuses entries texts answer → HaveManyNodes entries texts answer ⊎ HaveManyWords entries texts answer
  unfolding Denotes
  denoted program answer h k = for_limits h.0 program answer h.1 h.2.linked (refuses_right entries texts answer (denoted_right entries texts program h) k)

  within : (program : Program) (answer : Answer) → Denotes entries texts program → IsWithin program (view_of (locations_in program)) → Refuses entries texts answer → ⊥
  within program answer h small k = few entries texts program answer h small (denoted program answer h k)

  -- two refusals of texts together
  limits : (one other : Answer) → HaveManyNodes entries texts one ⊎ HaveManyWords entries texts one → HaveManyNodes entries texts other ⊎ HaveManyWords entries texts other → one ≡ other
  limits one other (inl h) (inl k) = many entries texts one other h k
  limits one other (inl h) (inr k) = absurd (nodes_or_words one other h k)
  limits one other (inr h) (inl k) = absurd (nodes_or_words other one k h)
  limits one other (inr h) (inr k) = many_words entries texts one other h k

  link_or_limit : (one other : Answer) → IsLinkRefusal entries texts one → HaveManyNodes entries texts other ⊎ HaveManyWords entries texts other → ⊥
  link_or_limit one other h (inl k) = links_or_not k.units k.program one k.right k.own.linked h
  link_or_limit one other h (inr k) = links_or_not k.units k.program one k.right k.own.linked h

  together : (one other : Answer) → AreRefusedTogether entries texts one → AreRefusedTogether entries texts other → one ≡ other
  together one other (inl h) (inl k) = linking one other h k
  together one other (inl h) (inr k) = absurd (link_or_limit one other h k)
  together one other (inr h) (inl k) = absurd (link_or_limit other one k h)
  together one other (inr h) (inr k) = limits one other h k

  refused : (one other : Answer) → Refuses entries texts one → Refuses entries texts other → one ≡ other
  unfolding Refuses
  refused one other (inl h) (inl k) = one_first 0 texts one other h k
  refused one other (inl h) (inr k) = absurd (none_right 0 texts one h (together_right entries texts other k))
  refused one other (inr h) (inl k) = absurd (none_right 0 texts other k (together_right entries texts one h))
  refused one other (inr h) (inr k) = together one other h k

-- what is accepted isn't refused
side_taken : (entries : List (List ℕ)) (units : List NamedText) (side : Side) (answer : Answer) → ((other : Program) → Denotes entries units other → TakesSide other side) → RefusesSide entries units side answer → ⊥
side_taken entries units no_side answer takes h = h.refused
side_taken entries units (with_questions script) answer takes h = taken_or_refused h.program h.space h.system script answer (takes h.program h.denoted h.space h.system h.system_of) h.refused
side_taken entries units (with_words steps words) answer takes h = words_taken_or_refused words answer (takes h.program h.denoted) h.refused

pub accepted_or_refused : (told : Told) (answer : Answer) → AreAccepted told → RefusesTold told answer → ⊥
accepted_or_refused told answer accepted (inl h) = within told.entries told.units accepted.program answer accepted.denoted accepted.within h
accepted_or_refused told answer accepted (inr h) = side_taken told.entries told.units told.side answer accepted.side h

pub one_outcome : OneOutcome
one_outcome = record {
  text = one_text;
  one = one_first;
  right = none_right;
  denoted = denoted;
  within = within;
  linking = linking;
  refused = refused;
  accepted = accepted_or_refused;
}
