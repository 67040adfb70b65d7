-- The programs that texts denote have as many nodes, and as many words of rows.
use Rattle.std.proofs.Common.{arith, ◌≡◌, ◌<◌, ◌≤◌, ◌^◌, ◌+◌, ◌⊎◌, inl, inr, ℕ, List, [], ◌∷◌, length, refl, sym, ap, ◌∙◌}
use Rattle.std.specs.List.{fold}
use Rattle.core_tree.specs.declared.node.Unit.{Unit}
use Rattle.core_tree.specs.declared.node.Program.{Program}
use Rattle.c_senses.specs.Names.{source_of, numbered}
use Rattle.unit_link.specs.Linked.{LinkedAt}
use Rattle.parsed_tree_laws.specs.reading_laws.right_laws.Alike.{AreAlike}
use Rattle.parsed_tree_laws.proofs.reading_laws.right_laws.RightAlike.{right_alike}
use Rattle.text_units.specs.Answers.{NamedText, Answer}
use Rattle.text_units.specs.Lowered.{IsRightText, AreRightTexts}
use Rattle.report_cli.specs.Linking.{HaveManyNodes, HaveManyWords, nodes_refusal, words_refusal}
use Rattle.report_cli.specs.Outcome.{Denotes}
use Rattle.report_cli.specs.Laws.{OneProgramSize}
use Rattle.obj_space.specs.Space.{locations_in}
use Rattle.obj_space.specs.View.{view_of}
use Rattle.constraints.specs.System.{IsWithin, word_total}
use Rattle.unit_report.specs.unit_system.Of.{IsProgramOf}
use Rattle.twin_report_laws.specs.outcome_laws.text_faults.Texts.{AreOfOneText}
use Rattle.twin_report_laws.proofs.outcome_laws.text_faults.Texts.{right_twins}
use Rattle.twin_report_laws.specs.outcome_laws.twin_programs.One.{AreAllRooted}
use Rattle.twin_report_laws.proofs.outcome_laws.twin_words.Whole.{one_word_total}
use Rattle.report_cli.proofs.Twins.{one_text_units, same_texts}
use Rattle.report_cli.proofs.covered_reports.Linkable.{IsUnitOf, unit_of}

alike : (number : ℕ) (text : NamedText) (u v : Unit) → IsRightText number text u → IsRightText number text v → AreAlike u v
alike number text u v h k =
    let same : AreOfOneText number u v = one_text_units number text u v h k in
    right_alike (numbered same.tag_number (source_of same.tokens same.tree)) same.name u v same.right same.other_right

same_sum : (number a b : ℕ) (texts : List NamedText) (us vs : List Unit) → a ≡ b → AreRightTexts number texts us → AreRightTexts number texts vs
    → fold (λ (before : ℕ) (x : Unit). before + length x.nodes.items) a us ≡ fold (λ (before : ℕ) (x : Unit). before + length x.nodes.items) b vs
same_sum number a b [] [] [] same h k = same
same_sum number a b [] [] (v ∷ vs) same h k = absurd k
same_sum number a b [] (u ∷ us) vs same h k = absurd h
same_sum number a b (text ∷ texts) [] vs same h k = absurd h
same_sum number a b (text ∷ texts) (u ∷ us) [] same h k = absurd k
same_sum number a b (text ∷ texts) (u ∷ us) (v ∷ vs) same h k =
    let like : AreAlike u v = alike number text u v h.0 k.0 in
    let here : length u.nodes.items ≡ length v.nodes.items = like.node_count in
    let more : a + length u.nodes.items ≡ b + length v.nodes.items = omega (arith, here, same) in
    same_sum (number + 1) (a + length u.nodes.items) (b + length v.nodes.items) texts us vs more h.1 k.1

pub linked_count : (entries : List (List ℕ)) (texts : List NamedText) (us vs : List Unit) (p q : Program) → AreRightTexts 0 texts us → AreRightTexts 0 texts vs → LinkedAt entries us p → LinkedAt entries vs q → length p.nodes.items ≡ length q.nodes.items
linked_count entries texts us vs p q h k one other = one.nodes.count ∙ (same_sum 0 0 0 texts us vs refl h k ∙ sym other.nodes.count)

count : (entries : List (List ℕ)) (texts : List NamedText) (p q : Program) → Denotes entries texts p → Denotes entries texts q → length p.nodes.items ≡ length q.nodes.items
unfolding Denotes
count entries texts p q h k = linked_count entries texts h.0 k.0 p q h.1 k.1 h.2.linked k.2.linked

pub many : (entries : List (List ℕ)) (texts : List NamedText) (one other : Answer) → HaveManyNodes entries texts one → HaveManyNodes entries texts other → one ≡ other
many entries texts one other h k =
    let same : length h.program.nodes.items ≡ length k.program.nodes.items = linked_count entries texts h.units k.units h.program k.program h.right k.right h.own.linked k.own.linked in
    let number : h.nodes ≡ k.nodes = h.many.nodes_are ∙ (same ∙ sym k.many.nodes_are) in
    h.answer_is ∙ (ap nodes_refusal number ∙ sym k.answer_is)

-- each node of a right unit is a body or a child, and each initialiser its entity's body
rooted : (texts : List NamedText) (units : List Unit) → AreRightTexts 0 texts units → AreAllRooted units
rooted texts units right = record {
  each = λ k u at.
      let own : IsUnitOf 0 texts k u = unit_of 0 texts units k u right at in
      record { nodes = own.right.right.no_other_node; initialisers = own.right.right.initialises_once };
}

word_count : (entries : List (List ℕ)) (texts : List NamedText) (us vs : List Unit) (p q : Program) → AreRightTexts 0 texts us → AreRightTexts 0 texts vs → IsProgramOf entries us p → IsProgramOf entries vs q
    → word_total p (view_of (locations_in p)) ≡ word_total q (view_of (locations_in q))
word_count entries texts us vs p q h k one other =
    one_word_total us vs p q (right_twins.all us vs (same_texts 0 texts us vs h k)) (rooted texts us h) (rooted texts vs k) one.linked other.linked
    (record { made = one.made; named = one.named; range = one.range }) (record { made = other.made; named = other.named; range = other.range })

words : (entries : List (List ℕ)) (texts : List NamedText) (p q : Program) → Denotes entries texts p → Denotes entries texts q → word_total p (view_of (locations_in p)) ≡ word_total q (view_of (locations_in q))
unfolding Denotes
words entries texts p q h k = word_count entries texts h.0 k.0 p q h.1 k.1 h.2 k.2

pub many_words : (entries : List (List ℕ)) (texts : List NamedText) (one other : Answer) → HaveManyWords entries texts one → HaveManyWords entries texts other → one ≡ other
many_words entries texts one other h k =
    let same : word_total h.program (view_of (locations_in h.program)) ≡ word_total k.program (view_of (locations_in k.program)) =
    word_count entries texts h.units k.units h.program k.program h.right k.right h.own k.own in
    let number : h.words ≡ k.words = h.many.words_are ∙ (same ∙ sym k.many.words_are) in
    h.answer_is ∙ (ap words_refusal number ∙ sym k.answer_is)

pub few : (entries : List (List ℕ)) (texts : List NamedText) (p : Program) (answer : Answer) → Denotes entries texts p → IsWithin p (view_of (locations_in p)) → HaveManyNodes entries texts answer ⊎ HaveManyWords entries texts answer → ⊥
unfolding Denotes
few entries texts p answer h within (inl k) =
    let same : length p.nodes.items ≡ length k.program.nodes.items = linked_count entries texts h.0 k.units p k.program h.1 k.right h.2.linked k.own.linked in
    let over : 2 ^ 24 < length k.program.nodes.items = k.many.many in
    let below : length p.nodes.items ≤ 2 ^ 24 = within.nodes in
    omega arith
few entries texts p answer h within (inr k) =
    let same : word_total p (view_of (locations_in p)) ≡ word_total k.program (view_of (locations_in k.program)) = word_count entries texts h.0 k.units p k.program h.1 k.right h.2 k.own in
    let over : 2 ^ 24 < word_total k.program (view_of (locations_in k.program)) = k.many.many in
    let below : word_total p (view_of (locations_in p)) ≤ 2 ^ 24 = within.words in
    omega arith

pub one_program_size : OneProgramSize
one_program_size = record { alike = alike; count = count; words = words; many = many; many_words = many_words; few = few }
