use Rattle.std.proofs.Common.{◌≡◌, ℕ, true, List, Some, None, [], ◌∷◌, ◌++◌, length, take, cond, refl, sym, ap, ◌∙◌, subst, arith}
use Rattle.std.specs.Prelude.{IfOk, is_ok}
use Rattle.std.specs.Str.{bytes_eq}
use Rattle.c_grammar.specs.declared.current.Current.{Current}
use Rattle.c_grammar.specs.Current.{place_in, known, Indexed}
use Rattle.c_grammar.proofs.Meanings.{updates_bytes}
use Rattle.c_grammar.proofs.Entries.{indexed_by, known_by, undone, pushed, added_indexed, added_known, added_place}
use Rattle.c_grammar.proofs.current.add_entry.Goals as goal
use Rattle.c_grammar.proofs.current.add_entry.Goals.{in-Ok, in-Err}

pub returns-in_err-push-clause-indexed : goal.returns-in_err-push-clause-indexed
returns-in_err-push-clause-indexed c = indexed_by c.args.current.now _ c.in_err-push.ensures.items refl refl c.requires.indexed

pub returns-then-is_err-clause-indexed : goal.returns-then-is_err-clause-indexed
returns-then-is_err-clause-indexed c =
    let old = c.args.current.now in
    let k : c.len-place.result ≡ length old.spelled.items = omega arith in
    let m : c.len-place.result ≡ length old.meant.items = omega (arith, c.requires.indexed.count) in
    let s = c.in_ok-spelled.spelled in
    let es = c.take_back.ensures.spelled ∙ (ap (λ l. take c.len-place.result l) c.in_ok-push.ensures.items ∙ undone true old.spelled.items s c.len-place.result k) in
    let em = c.take_back.ensures.meant ∙ (ap (λ l. take c.len-place.result l) c.push-2.ensures.items ∙ undone (is_ok c.push-2.result) old.meant.items None c.len-place.result m) in
    indexed_by old c.take_back.new.current es (ap length em) (ap (λ p. p.entries) c.take_back.ensures.places) c.requires.indexed

pub returns-then-is_err-clause-known : goal.returns-then-is_err-clause-known
returns-then-is_err-clause-known c = λ q.
    let old = c.args.current.now in
    let m : c.len-place.result ≡ length old.meant.items = omega (arith, c.requires.indexed.count) in
    let em = c.take_back.ensures.meant ∙ (ap (λ l. take c.len-place.result l) c.push-2.ensures.items ∙ undone (is_ok c.push-2.result) old.meant.items None c.len-place.result m) in
    known_by old c.take_back.new.current em (ap (λ p. p.entries) c.take_back.ensures.places) q

pub returns-clause-indexed : goal.returns-clause-indexed
returns-clause-indexed c =
    let old = c.args.current.now in
    let name = c.args.name.now in
    let k : c.len-place.result ≡ length old.spelled.items = omega arith in
    let s = c.in_ok-spelled.spelled in
    let key : c.in_ok-key.key.items ≡ name = c.in_ok-key.ensures in
    let m : c.len-place.result ≡ length old.meant.items = omega (arith, c.requires.indexed.count) in
    elim c.match-insert.branch [
      | in-Ok w ↦
          subst (λ (x : Current). Indexed x) (sym w.current-is) (added_indexed old _ name s c.requires.indexed c.requires.new c.in_ok-spelled.ensures c.in_ok-push.ensures.items (pushed c.push-2.result old.meant.items None c.push-2.ensures.items c.is_err.ensures.value c.if-is_err.false)
          (λ q. updates_bytes c.in_ok-key.key.items old.places c.insert.new.self (Some c.len-place.result) w.in-Ok.ensures.updates q ∙ (ap (λ n. cond (bytes_eq n q) (Some c.len-place.result) (place_in old.places q)) key ∙ ap (λ n. cond (bytes_eq name q) (Some n) (place_in old.places q)) k)))
      | in-Err w ↦
          subst (λ (x : Current). Indexed x) (sym w.current-is) (indexed_by old w.take_back-in-Err.new.current (w.take_back-in-Err.ensures.spelled ∙ (ap (λ l. take c.len-place.result l) c.in_ok-push.ensures.items ∙ undone true old.spelled.items s c.len-place.result k)) (ap length (w.take_back-in-Err.ensures.meant ∙ (ap (λ l. take c.len-place.result l) c.push-2.ensures.items ∙ undone (is_ok c.push-2.result) old.meant.items None c.len-place.result m))) (ap (λ p. p.entries) w.take_back-in-Err.ensures.places ∙ w.in-Err.ensures.err) c.requires.indexed)
    ]

pub returns-clause-place : goal.returns-clause-place
returns-clause-place c =
    let old = c.args.current.now in
    let name = c.args.name.now in
    let k : c.len-place.result ≡ length old.spelled.items = omega arith in
    let s = c.in_ok-spelled.spelled in
    let key : c.in_ok-key.key.items ≡ name = c.in_ok-key.ensures in
    elim c.match-insert.branch [
      | in-Ok w ↦
          subst (λ (x : Current). IfOk c.match-insert.result (λ place. place_in x.places name ≡ Some place)) (sym w.current-is)
          (subst (λ r. IfOk r (λ place. place_in c.insert.new.self name ≡ Some place)) (sym w.result-is)
          (added_place old (record { spelled = c.push.new.self; meant = c.push-2.new.self; places = c.insert.new.self; recent = old.recent }) name s c.requires.indexed c.requires.new c.in_ok-spelled.ensures c.in_ok-push.ensures.items (pushed c.push-2.result old.meant.items None c.push-2.ensures.items c.is_err.ensures.value c.if-is_err.false)
          (λ q. updates_bytes c.in_ok-key.key.items old.places c.insert.new.self (Some c.len-place.result) w.in-Ok.ensures.updates q ∙ (ap (λ n. cond (bytes_eq n q) (Some c.len-place.result) (place_in old.places q)) key ∙ ap (λ n. cond (bytes_eq name q) (Some n) (place_in old.places q)) k)) ∙ ap Some (sym k)))
      | in-Err w ↦
          subst (λ r. IfOk r (λ place. place_in c.match-insert.current.places name ≡ Some place)) (sym w.result-is) tt
    ]

pub returns-clause-known : goal.returns-clause-known
returns-clause-known c = λ q.
    let old = c.args.current.now in
    let name = c.args.name.now in
    let k : c.len-place.result ≡ length old.spelled.items = omega arith in
    let s = c.in_ok-spelled.spelled in
    let key : c.in_ok-key.key.items ≡ name = c.in_ok-key.ensures in
    let m : c.len-place.result ≡ length old.meant.items = omega (arith, c.requires.indexed.count) in
    elim c.match-insert.branch [
      | in-Ok w ↦
          ap (λ (x : Current). known x q) w.current-is ∙ added_known old (record { spelled = c.push.new.self; meant = c.push-2.new.self; places = c.insert.new.self; recent = old.recent }) name s c.requires.indexed c.requires.new c.in_ok-spelled.ensures c.in_ok-push.ensures.items (pushed c.push-2.result old.meant.items None c.push-2.ensures.items c.is_err.ensures.value c.if-is_err.false)
          (λ q. updates_bytes c.in_ok-key.key.items old.places c.insert.new.self (Some c.len-place.result) w.in-Ok.ensures.updates q ∙ (ap (λ n. cond (bytes_eq n q) (Some c.len-place.result) (place_in old.places q)) key ∙ ap (λ n. cond (bytes_eq name q) (Some n) (place_in old.places q)) k)) q
      | in-Err w ↦
          ap (λ (x : Current). known x q) w.current-is ∙ known_by old w.take_back-in-Err.new.current (w.take_back-in-Err.ensures.meant ∙ (ap (λ l. take c.len-place.result l) c.push-2.ensures.items ∙ undone (is_ok c.push-2.result) old.meant.items None c.len-place.result m)) (ap (λ p. p.entries) w.take_back-in-Err.ensures.places ∙ w.in-Err.ensures.err) q
    ]
