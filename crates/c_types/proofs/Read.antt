-- Reading an entry.
use Rattle.std.proofs.Common.{arith, ◌≡◌, ℕ, zero, suc, ◌<◌, [], ◌∷◌, List, length, slice_get, get_or, Some, refl, subst}
use Rattle.c_types.specs.declared.term.Term.{Term}
use Rattle.c_types.specs.Table.{IsAfter, HasTag}
use Rattle.std.proofs.lemmas.Option.{slice_get-get_or, slice_get_read}
use Rattle.std.proofs.lemmas.List.{length-map}
use Rattle.c_types.specs.declared.table.Entry.{Entry}
use Rattle.c_types.specs.Trees.{grown}
use Rattle.c_types.specs.Inside.{terms_of, AreEntries, IsEntry}

pub entry_at : (entries : List Entry) (tags : ℕ) → AreEntries entries tags → (i : ℕ) (d : Entry) → i < length entries → IsEntry (grown [] (terms_of entries)) i (get_or entries i d)
entry_at entries tags all i d h = all.each i (get_or entries i d) (slice_get-get_or entries i d h)

-- the entry that was read
pub entry_read : (entries : List Entry) (i : ℕ) (e : Entry) → i < length (terms_of entries) → e ≡ get_or entries i e → slice_get entries i ≡ Some e
entry_read entries i e h r = slice_get_read entries (length entries) i e refl (omega (arith, length-map entries (λ (x : Entry). x.term))) r

term_entry : (entries : List Entry) (i : ℕ) (t : Term) → slice_get (terms_of entries) i ≡ Some t → (e : Entry) × (slice_get entries i ≡ Some e) × (e.term ≡ t)
term_entry [] i t h = cc
term_entry (x ∷ entries) zero t h = (x, refl, cc)
term_entry (x ∷ entries) (suc i) t h = term_entry entries i t h

-- each term's types come before it, and its tag is the table's
pub terms_named : (entries : List Entry) (tags : ℕ) → AreEntries entries tags → (i : ℕ) (t : Term) → slice_get (terms_of entries) i ≡ Some t → IsAfter i t × HasTag tags t
terms_named entries tags all i t h =
    let (e, at, same) = term_entry entries i t h in
    (subst (IsAfter i) same (all.each i e at).after, subst (HasTag tags) same (all.tagged i e at))
