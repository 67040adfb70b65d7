-- A queue whose items leave at the front and come back at the end.
use Rattle.std.proofs.Common.{arith, ◌≡◌, ◌∙◌, ℕ, zero, suc, ◌+◌, ◌-◌, ◌<◌, ◌≤◌, List, [], ◌∷◌, ◌++◌, length, length-append, map, take, drop, get_or, Option, Some, None, append-nil, append_assoc, refl, sym, ap}
use Rattle.core_tree.specs.declared.node.Node.{Node}
use Rattle.unit_finish.specs.unit_parts.Numbered.{moved, staying}
use Rattle.unit_finish.specs.unit_parts.Turns.{Turns, Comes, back}

take_push : {X : Type 0} (k : ℕ) (rest : List X) (y : X) → k ≤ length rest → take k (rest ++ y ∷ []) ≡ take k rest
take_push zero rest y le = refl
take_push (suc k) [] y le = absurd (omega (arith, le))
take_push (suc k) (x ∷ rest) y le = ap (λ l. x ∷ l) (take_push k rest y (omega (arith, le)))

drop_push : {X : Type 0} (k : ℕ) (rest : List X) (y : X) → k ≤ length rest → drop k (rest ++ y ∷ []) ≡ drop k rest ++ y ∷ []
drop_push zero rest y le = refl
drop_push (suc k) [] y le = absurd (omega (arith, le))
drop_push (suc k) (x ∷ rest) y le = drop_push k rest y (omega (arith, le))

-- what has come back, and what is still to come, before and after one turn
map_turn : {X : Type 0} (f : X → X) (ring rest : List X) (k : ℕ) (x y : X) (wanted : List X) → ring ≡ x ∷ rest → k ≤ length rest → y ≡ f x → drop (suc k) ring ++ map f (take (suc k) ring) ≡ wanted → drop k (rest ++ y ∷ []) ++ map f (take k (rest ++ y ∷ [])) ≡ wanted
map_turn {X} f ring rest k x y wanted er le ey h =
    ap (λ l. l ++ map f (take k (rest ++ y ∷ []))) (drop_push k rest y le)
    ∙ (ap (λ l. (drop k rest ++ y ∷ []) ++ map f l) (take_push k rest y le)
    ∙ (append_assoc (drop k rest) (y ∷ []) (map f (take k rest))
    ∙ (ap (λ z. drop k rest ++ z ∷ map f (take k rest)) ey ∙ (ap (λ (r : List X). drop (suc k) r ++ map f (take (suc k) r)) (sym er) ∙ h))))

-- one turn more of a queue whose items all come back
pub come_more : (f : Node → Node) (at count : ℕ) (old new wanted : List Node) → Comes f old new → at < count → count ≤ at + length old → drop (count - at) old ++ map f (take (count - at) old) ≡ wanted
    → drop (count - (at + 1)) new ++ map f (take (count - (at + 1)) new) ≡ wanted
come_more f at count old new wanted comes lt room h =
    let rest = comes.rest in
    let long : length old ≡ suc (length rest) = ap length comes.before in
    let left : count - at ≡ suc (count - (at + 1)) = omega (arith, lt) in
    ap (λ (l : List Node). drop (count - (at + 1)) l ++ map f (take (count - (at + 1)) l)) comes.after
    ∙ map_turn f old rest (count - (at + 1)) comes.node (f comes.node) wanted comes.before (omega (arith, room, long, lt)) refl (sym (ap (λ (n : ℕ). drop n old ++ map f (take n old)) left) ∙ h)

pub come_room : (f : Node → Node) (at count : ℕ) (old new : List Node) → Comes f old new → count ≤ at + length old → count ≤ (at + 1) + length new
come_room f at count old new comes room =
    let long : length old ≡ suc (length comes.rest) = ap length comes.before in
    let longer : length new ≡ length comes.rest + 1 = ap length comes.after ∙ length-append comes.rest (f comes.node ∷ []) in
    omega (arith, room, long, longer)

module _ (numbers : List (Option ℕ)) where
  turn_by : (o : Option ℕ) (rest : List Node) (more : List (Option ℕ)) (k : ℕ) (x : Node) → k ≤ length rest → drop k (rest ++ back numbers o x) ++ map (moved numbers) (staying (take k (rest ++ back numbers o x)) more) ≡ drop k rest ++ map (moved numbers) (staying (x ∷ take k rest) (o ∷ more))
  turn_by None rest more k x le = ap (λ (l : List Node). drop k l ++ map (moved numbers) (staying (take k l) more)) (append-nil rest)
  turn_by (Some n) rest more k x le =
      ap (λ (l : List Node). l ++ map (moved numbers) (staying (take k (rest ++ moved numbers x ∷ [])) more)) (drop_push k rest (moved numbers x) le)
      ∙ (ap (λ (l : List Node). (drop k rest ++ moved numbers x ∷ []) ++ map (moved numbers) (staying l more)) (take_push k rest (moved numbers x) le)
      ∙ append_assoc (drop k rest) (moved numbers x ∷ []) (map (moved numbers) (staying (take k rest) more)))

  drop_here : (xs : List (Option ℕ)) (i : ℕ) → i < length xs → drop i xs ≡ get_or xs i None ∷ drop (i + 1) xs
  drop_here [] i lt = absurd (omega (arith, lt))
  drop_here (x ∷ xs) zero lt = refl
  drop_here (x ∷ xs) (suc i) lt =
      let e : suc (i + 1) ≡ suc i + 1 = omega arith in
      drop_here xs i (omega (arith, lt)) ∙ ap (λ (n : ℕ). get_or xs i None ∷ drop n (x ∷ xs)) e

  -- one turn more
  pub turn_more : (at count : ℕ) (old new wanted : List Node) → Turns numbers at old new → at < count → at < length numbers → count ≤ at + length old → drop (count - at) old ++ map (moved numbers) (staying (take (count - at) old) (drop at numbers)) ≡ wanted
      → drop (count - (at + 1)) new ++ map (moved numbers) (staying (take (count - (at + 1)) new) (drop (at + 1) numbers)) ≡ wanted
  turn_more at count old new wanted turns lt few room h =
      let x = turns.node in
      let rest = turns.rest in
      let k = count - (at + 1) in
      let o = get_or numbers at None in
      let f = moved numbers in
      let long : length old ≡ suc (length rest) = ap length turns.before in
      let left : count - at ≡ suc k = omega (arith, lt) in
      ap (λ (l : List Node). drop k l ++ map f (staying (take k l) (drop (at + 1) numbers))) turns.after
      ∙ (turn_by o rest (drop (at + 1) numbers) k x (omega (arith, room, long, lt))
      ∙ (ap (λ (l : List (Option ℕ)). drop k rest ++ map f (staying (x ∷ take k rest) l)) (sym (drop_here numbers at few))
      ∙ (ap (λ (r : List Node). drop (suc k) r ++ map f (staying (take (suc k) r) (drop at numbers))) (sym turns.before)
      ∙ (ap (λ (n : ℕ). drop n old ++ map f (staying (take n old) (drop at numbers))) (sym left) ∙ h))))

  pub turn_room : (at count : ℕ) (old new : List Node) → Turns numbers at old new → count ≤ at + length old → count ≤ (at + 1) + length new
  turn_room at count old new turns room =
      let long : length old ≡ suc (length turns.rest) = ap length turns.before in
      let longer : length new ≡ length turns.rest + length (back numbers (get_or numbers at None) turns.node) = ap length turns.after ∙ length-append turns.rest (back numbers (get_or numbers at None) turns.node) in
      omega (arith, room, long, longer)

-- no more nodes count than there are numbers
none_left : (n : ℕ) (numbers : List (Option ℕ)) → staying (take n []) numbers ≡ []
none_left zero numbers = refl
none_left (suc n) numbers = refl

pub staying_take : (nodes : List Node) (numbers : List (Option ℕ)) → staying (take (length numbers) nodes) numbers ≡ staying nodes numbers
staying_take [] numbers = none_left (length numbers) numbers
staying_take (x ∷ nodes) [] = refl
staying_take (x ∷ nodes) (None ∷ numbers) = staying_take nodes numbers
staying_take (x ∷ nodes) (Some k ∷ numbers) = ap (λ (l : List Node). x ∷ l) (staying_take nodes numbers)

pub short_take : {X : Type 0} (n : ℕ) (xs : List X) → length (take n xs) ≤ n
short_take zero xs = omega arith
short_take (suc n) [] = omega arith
short_take (suc n) (x ∷ xs) = let h = short_take n xs in omega (arith, h)

-- all are to come, and none is
pub all_to_come : {X : Type 0} (xs : List X) → take (length xs) xs ≡ xs
all_to_come [] = refl
all_to_come (x ∷ xs) = ap (λ l. x ∷ l) (all_to_come xs)

pub none_back : {X : Type 0} (xs : List X) → drop (length xs) xs ≡ []
none_back [] = refl
none_back (x ∷ xs) = none_back xs

-- at the first turn and behind the last, over any way of writing the nodes that are still to come
module _ {X : Type 0} (told : List X → List X) where
  pub turns_begin : (ring nodes : List X) (count : ℕ) → ring ≡ nodes → count ≡ length nodes → drop (count - 0) ring ++ told (take (count - 0) ring) ≡ told nodes
  turns_begin ring nodes count same long =
      let all : count - 0 ≡ length ring = omega (arith, long, ap length same) in
      ap (λ (n : ℕ). drop n ring ++ told (take n ring)) all
      ∙ (ap (λ (l : List X). l ++ told (take (length ring) ring)) (none_back ring) ∙ (ap told (all_to_come ring) ∙ ap told same))

  pub turns_end : (ring wanted : List X) (at count : ℕ) → count ≤ at → told [] ≡ [] → drop (count - at) ring ++ told (take (count - at) ring) ≡ wanted → ring ≡ wanted
  turns_end ring wanted at count past none h =
      let left : count - at ≡ 0 = omega (arith, past) in
      sym (append-nil ring) ∙ (ap (λ (l : List X). ring ++ l) (sym none) ∙ (sym (ap (λ (n : ℕ). drop n ring ++ told (take n ring)) left) ∙ h))
