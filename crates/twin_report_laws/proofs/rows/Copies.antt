-- Lists of assignments over the nodes of a type, in two programs that are one, but for numbers.
use Rattle.std.proofs.Common.{◌≡◌, ◌∙◌, ◌+◌, ◌<◌, ℕ, Bool, true, false, List, [], ◌∷◌, ◌++◌, map, refl, sym, ap, length}
use Rattle.std.proofs.lemmas.List.{map-append}
use Rattle.c_types.specs.Trees.{Ctype}
use Rattle.link_model.specs.Renamed.{renamed}
use Rattle.normal_form.specs.declared.normal.Assignment.{Assignment}
use Rattle.normal_form.specs.declared.normal.Assignment.TheVariants.{Address, Copy, Load, Store, Field}
use Rattle.normal_form.specs.Assignments.{copies, spreads, loads, stores, put_at}
use Rattle.row_numbers.specs.Kept.{kept, kept_row}
use Rattle.twin_report_laws.specs.outcome_laws.twin_locations.Same.{number_moved}
use Rattle.twin_report_laws.proofs.outcome_laws.twin_words.Members.{Member}
use Rattle.twin_report_laws.proofs.rows.Types.{kept_moved}
use Rattle.twin_report_laws.proofs.rows.Rows.{same_map, map_map, Leads, kept_row_moved, kept_length_below}

-- an assignment with other numbers
abbrev pub assignment_moved : (ℕ → ℕ) → (ℕ → ℕ) → Assignment → Assignment
assignment_moved m f (Address to location) = Address (m to) (m location)
assignment_moved m f (Copy to from) = Copy (m to) (m from)
assignment_moved m f (Load to pointer ty sub) = Load (m to) (m pointer) (number_moved f ty) sub
assignment_moved m f (Store pointer from ty sub) = Store (m pointer) (m from) (number_moved f ty) sub
assignment_moved m f (Field to from ty member) = Field (m to) (m from) (number_moved f ty) member

module _ (m f : ℕ → ℕ) where
  abbrev pub Moved : List Assignment → List Assignment → Type 0
  Moved other one = other ≡ map (assignment_moved m f) one

  pub moved_append : (xs ys rs bs : List Assignment) → Moved xs rs → Moved ys bs → Moved (xs ++ ys) (rs ++ bs)
  moved_append xs ys rs bs h k =
      ap (λ (l : List Assignment). l ++ ys) h ∙ (ap (λ (l : List Assignment). map (assignment_moved m f) rs ++ l) k ∙ sym (map-append (assignment_moved m f) rs bs))

  pub address_moved : (to location other there : ℕ) → other ≡ m to → there ≡ m location → Moved (Address other there ∷ []) (Address to location ∷ [])
  address_moved to location other there a b = ap (λ (n : ℕ). Address n there ∷ []) a ∙ ap (λ (n : ℕ). Address (m to) n ∷ []) b

  pub copy_moved : (to from other there : ℕ) → other ≡ m to → there ≡ m from → Moved (Copy other there ∷ []) (Copy to from ∷ [])
  copy_moved to from other there a b = ap (λ (n : ℕ). Copy n there ∷ []) a ∙ ap (λ (n : ℕ). Copy (m to) n ∷ []) b

  pub load_moved : (to pointer sub other there ty : ℕ) → other ≡ m to → there ≡ m pointer → ty ≡ number_moved f ty → Moved (Load other there ty sub ∷ []) (Load to pointer ty sub ∷ [])
  load_moved to pointer sub other there ty a b c =
      ap (λ (n : ℕ). Load n there ty sub ∷ []) a ∙ (ap (λ (n : ℕ). Load (m to) n ty sub ∷ []) b ∙ ap (λ (n : ℕ). Load (m to) (m pointer) n sub ∷ []) c)

  pub field_moved : (to from ty k other there number : ℕ) → other ≡ m to → there ≡ m from → number ≡ number_moved f ty → Moved (Field other there number k ∷ []) (Field to from ty k ∷ [])
  field_moved to from ty k other there number a b c =
      ap (λ (n : ℕ). Field n there number k ∷ []) a ∙ (ap (λ (n : ℕ). Field (m to) n number k ∷ []) b ∙ ap (λ (n : ℕ). Field (m to) (m from) n k ∷ []) c)

  module _ (ts : List Ctype) where
    over_kept : (F G : ℕ → Assignment) → ((i : ℕ) → Member (kept ts) i → G i ≡ assignment_moved m f (F i)) → Moved (map G (kept (map (renamed f) ts))) (map F (kept ts))
    over_kept F G each = ap (map G) (kept_moved f ts) ∙ (same_map G (λ i. assignment_moved m f (F i)) (kept ts) each ∙ sym (map_map (assignment_moved m f) F (kept ts)))

    pub copies_moved : (to from other there : ℕ) → Leads m ts to other → Leads m ts from there → Moved (copies (map (renamed f) ts) other there) (copies ts to from)
    copies_moved to from other there a b =
        over_kept (λ i. Copy (kept_row to ts i) (kept_row from ts i)) (λ i. Copy (kept_row other (map (renamed f) ts) i) (kept_row there (map (renamed f) ts) i))
        (λ i own. ap (λ (n : ℕ). Copy n (kept_row there (map (renamed f) ts) i)) (kept_row_moved m f ts to other i a own) ∙ ap (λ (n : ℕ). Copy (m (kept_row to ts i)) n) (kept_row_moved m f ts from there i b own))

    pub spreads_moved : (to from other there : ℕ) → Leads m ts to other → there ≡ m from → Moved (spreads (map (renamed f) ts) other there) (spreads ts to from)
    spreads_moved to from other there a b =
        over_kept (λ i. Copy (kept_row to ts i) from) (λ i. Copy (kept_row other (map (renamed f) ts) i) there)
        (λ i own. ap (λ (n : ℕ). Copy n there) (kept_row_moved m f ts to other i a own) ∙ ap (λ (n : ℕ). Copy (m (kept_row to ts i)) n) b)

    -- into one row
    pub gathers_moved : (to from other there : ℕ) → other ≡ m to → Leads m ts from there
        → Moved (map (λ i. Copy other (kept_row there (map (renamed f) ts) i)) (kept (map (renamed f) ts))) (map (λ i. Copy to (kept_row from ts i)) (kept ts))
    gathers_moved to from other there a b =
        over_kept (λ i. Copy to (kept_row from ts i)) (λ i. Copy other (kept_row there (map (renamed f) ts) i))
        (λ i own. ap (λ (n : ℕ). Copy n (kept_row there (map (renamed f) ts) i)) a ∙ ap (λ (n : ℕ). Copy (m to) n) (kept_row_moved m f ts from there i b own))

    pub loads_moved : (to pointer ty other there number : ℕ) → Leads m ts to other → there ≡ m pointer → number ≡ number_moved f ty → Moved (loads (map (renamed f) ts) other there number) (loads ts to pointer ty)
    loads_moved to pointer ty other there number a b c =
        over_kept (λ i. Load (kept_row to ts i) pointer ty i) (λ i. Load (kept_row other (map (renamed f) ts) i) there number i)
        (λ i own.
        ap (λ (n : ℕ). Load n there number i) (kept_row_moved m f ts to other i a own)
        ∙ (ap (λ (n : ℕ). Load (m (kept_row to ts i)) n number i) b ∙ ap (λ (n : ℕ). Load (m (kept_row to ts i)) (m pointer) n i) c))

    pub stores_moved : (pointer from ty other there number : ℕ) → other ≡ m pointer → Leads m ts from there → number ≡ number_moved f ty → Moved (stores (map (renamed f) ts) other there number) (stores ts pointer from ty)
    stores_moved pointer from ty other there number a b c =
        over_kept (λ i. Store pointer (kept_row from ts i) ty i) (λ i. Store other (kept_row there (map (renamed f) ts) i) number i)
        (λ i own.
        ap (λ (n : ℕ). Store n (kept_row there (map (renamed f) ts) i) number i) a
        ∙ (ap (λ (n : ℕ). Store (m pointer) n number i) (kept_row_moved m f ts from there i b own) ∙ ap (λ (n : ℕ). Store (m pointer) (m (kept_row from ts i)) n i) c))

    -- what is put at a location that leads to itself, rs do those behind it where it isn't collapsed
    pub put_moved : (b : Bool) (location from there : ℕ) → (0 < length ts → m location ≡ location) → (b ≡ false → (i : ℕ) → i < length ts → m (location + i) ≡ location + i) → Leads m ts from there
        → Moved (put_at (map (renamed f) ts) b location there) (put_at ts b location from)
    put_moved true location from there one each a =
        over_kept (λ i. Copy location (kept_row from ts i)) (λ i. Copy location (kept_row there (map (renamed f) ts) i))
        (λ i own.
        let within = kept_length_below ts i own in
        ap (λ (n : ℕ). Copy n (kept_row there (map (renamed f) ts) i)) (sym (one (within.1))) ∙ ap (λ (n : ℕ). Copy (m location) n) (kept_row_moved m f ts from there i a own))
    put_moved false location from there one each a =
        over_kept (λ i. Copy (location + i) (kept_row from ts i)) (λ i. Copy (location + i) (kept_row there (map (renamed f) ts) i))
        (λ i own.
        let within = kept_length_below ts i own in
        ap (λ (n : ℕ). Copy n (kept_row there (map (renamed f) ts) i)) (sym (each refl i within.0)) ∙ ap (λ (n : ℕ). Copy (m (location + i)) n) (kept_row_moved m f ts from there i a own))
