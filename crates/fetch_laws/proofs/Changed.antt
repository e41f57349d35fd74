-- The changed array of a fetch: good where it is valid, and the only good one into which the texts were put.
use Rattle.std.proofs.Common.{◌≡◌, ℕ, zero, suc, ◌+◌, ◌^◌, ◌<◌, ◌≤◌, ◌⊎◌, List, [], ◌∷◌, ◌++◌, length, set, refl, sym, ap, subst, ◌∙◌, ⊎_elim, inl, inr, arith}
use Rattle.std.specs.Prelude.{Some, slice_get}
use Rattle.std.proofs.lemmas.Bool.{cases_lt}
use Rattle.std.proofs.lemmas.List.{length-set, get_or-set_same, get_or-set_other, get_or_past, append-nil}
use Rattle.std.proofs.lemmas.Option.{slice_get_within, get_or_from_slice_get}
use Rattle.nfs2_types.specs.declared.Limits.{Limits}
use Rattle.xdr_core.specs.Grammar.{Spells}
use Rattle.xdr_core.proofs.Formats.{no_prefix}
use Rattle.abs_model.specs.declared.Change.{Change}
use Rattle.abs_model.specs.declared.Entry.{Entry}
use Rattle.abs_model.specs.Array.{changed, entry_at, null_entry}
use Rattle.abs_model.specs.Valid.{Valid}
use Rattle.abs_text.specs.Text.{entry_text}
use Rattle.abs_text.specs.Forms.{entry_form}
use Rattle.abs_text.specs.Wordy.{IsWordy, IsGood}
use Rattle.abs_text.proofs.Spelled.{entry_spelled, text_is}
use Rattle.abs_text.proofs.Good.{good_spelled}
use Rattle.cluster_model.specs.Service.{Service}
use Rattle.cluster_model.specs.Tree as tree
use Rattle.cluster_model.specs.Loose.{IsPut}
use Rattle.cluster_model.proofs.Sources.{same_texts}
use Rattle.state_transfer.specs.Fetch.{Fetch, Adds, change}
use Rattle.state_transfer.specs.Got.{HasGot}
use Rattle.state_transfer.proofs.Walks.{Gots}
use Rattle.recovery.specs.Rebuilt.{Rebuilt, from_start, HasFetched}
use Rattle.recovery.specs.Real.{HasRealTexts}
use Rattle.recovery.proofs.Put.{length-changed, is_put}
use Rattle.fetch_laws.proofs.Wordy.{read_wordy}

-- P of the entry of each change, at its index
abbrev AllChanged : (ℕ → Entry → Type 0) → List Change → Type 0
AllChanged P [] = Unit {0}
AllChanged P (c ∷ cs) = P c.index c.entry × AllChanged P cs

all_more : (P : ℕ → Entry → Type 0) (cs : List Change) (c : Change) → AllChanged P cs → P c.index c.entry →
    AllChanged P (cs ++ c ∷ [])
all_more P [] c h p = (p, tt)
all_more P (d ∷ cs) c h p = (h.0, all_more P cs c h.1 p)

either : (a b : ℕ) → (a ≡ b) ⊎ (a ≡ b → ⊥)
either a b = ⊎_elim (λ l. inr (λ e. omega (arith, l, e)))
    (λ g. ⊎_elim (λ l. inr (λ e. omega (arith, l, e))) (λ h. inl (omega (arith, g, h))) (cases_lt b a)) (cases_lt a b)

-- P of each entry of a changed array
changed_all : (P : ℕ → Entry → Type 0) (cs : List Change) (A : List Entry) → AllChanged P cs →
    ((i : ℕ) → i < length A → P i (entry_at A i)) → (i : ℕ) → i < length A → P i (entry_at (changed cs A) i)
changed_all P [] A h old i low = old i low
changed_all P (c ∷ cs) A h old i low =
    let size = length-set A c.index c.entry in
    changed_all P cs (set A c.index c.entry) h.1 (λ k within. here k (omega (arith, within, size))) i
    (omega (arith, low, size))
  where
    here : (k : ℕ) → k < length A → P k (entry_at (set A c.index c.entry) k)
    here k within = ⊎_elim
        (λ same. let there : entry_at (set A c.index c.entry) k ≡ c.entry
        = ap (λ (j : ℕ). entry_at (set A j c.entry) k) same ∙ get_or-set_same A k c.entry null_entry within in
        subst (P k) (sym there) (subst (λ j. P j c.entry) same h.0))
        (λ other. subst (P k) (sym (get_or-set_other A c.index k c.entry null_entry (λ e. other (sym e)))) (old k within))
        (either c.index k)

-- an entry that was read at this index
abbrev IsRead : ℕ → Entry → Type 0
IsRead i e = (text : List ℕ) × Spells entry_form (i, e) text

adds_read : (level number : ℕ) (text : List ℕ) (old new : List Change) → Adds level number text old new →
    AllChanged IsRead old → AllChanged IsRead new
adds_read zero number text old new a h = subst (AllChanged IsRead) (sym a.2)
    (all_more IsRead old (change number a.0) h (text, a.1))
adds_read (suc level) number text old new a h = subst (AllChanged IsRead) (sym a) h

changes_read : (f : Fetch) (got : Gots) (end : Fetch) → HasGot f got end → AllChanged IsRead f.changes →
    AllChanged IsRead end.changes
changes_read f [] end h a = subst (λ (g : Fetch). AllChanged IsRead g.changes) (sym h) a
changes_read f (g ∷ got) end h a =
    changes_read h.2 got end h.6 (adds_read f.stand.level h.0.0 g.1 f.changes h.2.changes h.5.changes a)

map_all : (P Q : ℕ → Entry → Type 0) → ((i : ℕ) (e : Entry) → P i e → Q i e) → (cs : List Change) → AllChanged P cs →
    AllChanged Q cs
map_all P Q f [] h = tt
map_all P Q f (c ∷ cs) h = (f c.index c.entry h.0, map_all P Q f cs h.1)

module _ (limits : Limits) (n_small : limits.n < 2 ^ 32) (t_small : limits.t ≤ 16777216) where
  -- each entry of a good array is spelled by its text
  pub spells_good : (a : List Entry) → IsGood limits a → (i : ℕ) → i < length a →
      Spells entry_form (i, entry_at a i) (entry_text i (entry_at a i))
  spells_good a good i low = entry_spelled i (entry_at a i) (good_spelled limits n_small a good t_small i low)

  module _ (A : List Entry) (good : IsGood limits A) (got : Gots) (b : Rebuilt) (h : HasFetched A got b) where
    abbrev now : List Entry
    now = changed b.fetch.changes A

    read : AllChanged IsRead b.fetch.changes
    read = changes_read (from_start b) got b.fetch h.leads tt

    size : length now ≡ length A
    size = length-changed b.fetch.changes A

    pub valid_good : Valid limits now → IsGood limits now
    valid_good valid = record { valid = valid; wordy = wordy }
      where
        wordy : (i : ℕ) → IsWordy (entry_at now i)
        wordy i = ⊎_elim
            (λ low. changed_all (λ k e. IsWordy e) b.fetch.changes A
            (map_all IsRead (λ k e. IsWordy e) (λ k e r. read_wordy k e r.0 r.1) b.fetch.changes read)
            (λ k within. good.wordy k) i low)
            (λ past. subst IsWordy (get_or_past A i null_entry past
            ∙ sym (get_or_past now i null_entry (omega (arith, past, size)))) (good.wordy i))
            (cases_lt i (length A))

    -- each entry of the changed array is spelled by its text
    spells_now : (i : ℕ) → i < length A → Spells entry_form (i, entry_at now i) (entry_text i (entry_at now i))
    spells_now i low = changed_all (λ k e. Spells entry_form (k, e) (entry_text k e)) b.fetch.changes A
        (map_all IsRead (λ k e. Spells entry_form (k, e) (entry_text k e))
        (λ k e r. subst (Spells entry_form (k, e)) (text_is k e r.0 r.1) r.1) b.fetch.changes read)
        (spells_good A good) i low

    module _ (S : Service) (real : HasRealTexts S) (a : List Entry) (fine : IsGood limits a) (put : IsPut S A got a) where
      one_entry : (i : ℕ) (x y : Entry) → (slice_get a i ≡ Some x) × ((slice_get now i ≡ Some y) × (i < length A)) →
          S.text i x ≡ S.text i y → x ≡ y
      one_entry i x y at same =
          let long = put.as_long in
          let ex : entry_at a i ≡ x = get_or_from_slice_get a i x null_entry at.0 in
          let ey : entry_at now i ≡ y = get_or_from_slice_get now i y null_entry at.1.0 in
          let text : entry_text i x ≡ entry_text i y = sym (real.text i x) ∙ same ∙ real.text i y in
          let sx = subst (λ e. Spells entry_form (i, e) (entry_text i e)) ex
          (spells_good a fine i (let low = at.1.1 in omega (arith, low, long))) in
          let sy = subst (λ e. Spells entry_form (i, e) (entry_text i e)) ey (spells_now i at.1.1) in
          let sy' = subst (Spells entry_form (i, y)) (sym text ∙ sym (append-nil (entry_text i x))) sy in
          ap (λ (p : ℕ × Entry). p.1) (no_prefix entry_form (i, x) (i, y) (entry_text i x) [] sx sy').1

      pub only_good : a ≡ now
      only_good =
          let p = is_put A got b h S real in
          let long = put.as_long in
          same_texts S (λ i x y. (slice_get a i ≡ Some x) × ((slice_get now i ≡ Some y) × (i < length A)))
          one_entry 0 a now (long ∙ sym size)
          (λ i x y ex ey. let z : 0 + i ≡ i = omega arith in
          subst (λ k. (slice_get a k ≡ Some x) × ((slice_get now k ≡ Some y) × (k < length A))) (sym z)
          (ex, (ey, within i y ey)))
          (λ i low. let z : i ≡ 0 + i = omega arith in
          let inside : i < length A = omega (arith, low, size) in
          subst (λ k. tree.entry_text S k (slice_get a i) ≡ tree.entry_text S k (slice_get now i)) z
          (put.texts i inside ∙ sym (p.texts i inside)))
        where
          within : (i : ℕ) (y : Entry) → slice_get now i ≡ Some y → i < length A
          within i y e = let low = slice_get_within now i y e in omega (arith, low, size)
