-- The names of a directory, among those of all.
use Rattle.std.proofs.Common.{inl, inr, ◌≡◌, ◌≢◌, ℕ, true, false, cond, List, [], ◌∷◌, ◌++◌, length, take, drop, Some, None, refl, sym, ap, ◌∙◌, arith}
use Rattle.std.proofs.Math.Seq.{take-length}
use Rattle.std.specs.Prelude.{bytes_eq}
use Rattle.std.specs.Ordering.{nat_cmp, is_eq}
use Rattle.std.specs.Cmp.Lexicographic.{slice_cmp, nat_list_cmp_total}
use Rattle.std.specs.FinMap.{find, get, insert, empty, entries, same_map, get-entries, get-from_entries, get-insert, get-remove, remove, get-empty}
use Rattle.std.proofs.lemmas.List.{take-append-drop, take-append-le, append_cancel_left}
use Rattle.std.proofs.lemmas.Slice.Eq.{bytes_eq-Decides}
use Rattle.server_trait.proofs.TreeLaws.{same-key_refl, other-keys, bytes_or_not, get-insert_other, get-remove_other}
use Rattle.path_store.specs.Stored.{Paths, entries_in, names_of}
use Rattle.path_store.proofs.Rows.{bytes_exact}

-- what a key begins with
pub start_of : (dir name : List ℕ) → length dir ≡ 32 → take 32 (dir ++ name) ≡ dir
start_of dir name fits = take-append-le 32 dir name (omega (arith, fits)) ∙ ap (λ n. take n dir) (sym fits)
    ∙ take-length dir

-- two tests agree where each pair is one exactly if the other is
same_test : (a b c d : List ℕ) → (a ≡ b → c ≡ d) → (c ≡ d → a ≡ b) →
    is_eq (slice_cmp nat_cmp a b) ≡ is_eq (slice_cmp nat_cmp c d)
same_test a b c d f g = elim (bytes_or_not a b) as (λ _. is_eq (slice_cmp nat_cmp a b) ≡ is_eq
    (slice_cmp nat_cmp c d)) [
      | inl e ↦ same a b e ∙ sym (same c d (f e))
      | inr ne ↦ other-keys a b ne ∙ sym (other-keys c d (λ e. ne (g e)))
    ]
  where
    same : (x y : List ℕ) → x ≡ y → is_eq (slice_cmp nat_cmp x y) ≡ true
    same x y e = ap (λ z. is_eq (slice_cmp nat_cmp x z)) (sym e) ∙ same-key_refl x

module _ (dir : List ℕ) (fits : length dir ≡ 32) where
  pub whole : (key : List ℕ) → bytes_eq (take 32 key) dir ≡ true → key ≡ dir ++ drop 32 key
  whole key t = sym (take-append-drop 32 key) ∙ ap (λ l. l ++ drop 32 key) ((bytes_eq-Decides (take 32 key) dir).0 t)

  pub starts : (name key : List ℕ) → dir ++ name ≡ key → bytes_eq (take 32 key) dir ≡ true
  starts name key e = (bytes_eq-Decides (take 32 key) dir).1 (ap (take 32) (sym e) ∙ start_of dir name fits)

  pub entry_found : (name : List ℕ) (es : List (List ℕ × List ℕ)) →
      find (slice_cmp nat_cmp) name (entries_in dir es) ≡ find (slice_cmp nat_cmp) (dir ++ name) es
  entry_found name [] = refl
  entry_found name (e ∷ es) = elim (bytes_eq (take 32 e.0) dir) as (λ b. bytes_eq (take 32 e.0) dir ≡ b →
      find (slice_cmp nat_cmp) name (cond b ((drop 32 e.0, e.1) ∷ entries_in dir es) (entries_in dir es)) ≡ cond
      (is_eq (slice_cmp nat_cmp (dir ++ name) e.0)) (Some e.1) (find (slice_cmp nat_cmp) (dir ++ name) es)) [
        | true ↦ λ t.
            ap (λ b. cond b (Some e.1) (find (slice_cmp nat_cmp) name (entries_in dir es)))
            (same_test name (drop 32 e.0) (dir ++ name) e.0 (λ q. ap (λ l. dir ++ l) q ∙ sym (whole e.0 t))
            (λ q. append_cancel_left dir name (drop 32 e.0) (q ∙ whole e.0 t)))
            ∙ ap (cond (is_eq (slice_cmp nat_cmp (dir ++ name) e.0)) (Some e.1)) (entry_found name es)
        | false ↦ λ f. entry_found name es
            ∙ sym (ap (λ b. cond b (Some e.1) (find (slice_cmp nat_cmp) (dir ++ name) es))
            (other-keys (dir ++ name) e.0 (λ q. let t = starts name e.0 q in let bad : true ≡ false = sym t
            ∙ f in cc)))
      ] refl

  -- what a name of the directory leads to
  pub get-names_of : (paths : Paths) (name : List ℕ) → get (names_of paths dir) name ≡ get paths (dir ++ name)
  unfolding names_of
  get-names_of paths name = get-from_entries nat_list_cmp_total (entries_in dir (entries paths)) name
      ∙ entry_found name (entries paths) ∙ sym (get-entries paths (dir ++ name))

  pub names_of-insert_same : (paths : Paths) (name h : List ℕ) →
      names_of (insert paths (dir ++ name) h) dir ≡ insert (names_of paths dir) name h
  names_of-insert_same paths name h = same_map nat_list_cmp_total bytes_exact _ _ (λ q.
      get-names_of (insert paths (dir ++ name) h) q ∙ get-insert nat_list_cmp_total paths (dir ++ name) h (dir ++ q)
      ∙ ap (λ b. cond b (Some h) (get paths (dir ++ q)))
      (same_test (dir ++ q) (dir ++ name) q name (append_cancel_left dir q name) (ap (λ l. dir ++ l)))
      ∙ ap (cond (is_eq (slice_cmp nat_cmp q name)) (Some h)) (sym (get-names_of paths q))
      ∙ sym (get-insert nat_list_cmp_total (names_of paths dir) name h q))

  pub names_of-remove_same : (paths : Paths) (name : List ℕ) →
      names_of (remove paths (dir ++ name)) dir ≡ remove (names_of paths dir) name
  names_of-remove_same paths name = same_map nat_list_cmp_total bytes_exact _ _ (λ q.
      get-names_of (remove paths (dir ++ name)) q ∙ get-remove nat_list_cmp_total paths (dir ++ name) (dir ++ q)
      ∙ ap (λ b. cond b None (get paths (dir ++ q)))
      (same_test (dir ++ q) (dir ++ name) q name (append_cancel_left dir q name) (ap (λ l. dir ++ l)))
      ∙ ap (cond (is_eq (slice_cmp nat_cmp q name)) None) (sym (get-names_of paths q))
      ∙ sym (get-remove nat_list_cmp_total (names_of paths dir) name q))

  pub names_of-none : (paths : Paths) → ((name : List ℕ) → get paths (dir ++ name) ≡ None) →
      names_of paths dir ≡ empty
  names_of-none paths none = same_map nat_list_cmp_total bytes_exact _ _ (λ q. get-names_of paths q ∙ none q
      ∙ sym (get-empty (slice_cmp nat_cmp) q))

-- keys of two directories differ
pub apart_keys : (dir q name x : List ℕ) → length dir ≡ 32 → length q ≡ 32 → q ++ x ≡ dir ++ name → q ≡ dir
apart_keys dir q name x fits fits' e = sym (start_of q x fits') ∙ ap (take 32) e ∙ start_of dir name fits

pub names_of-insert_other : (paths : Paths) (dir name h q : List ℕ) → length dir ≡ 32 → length q ≡ 32 → q ≢ dir →
    names_of (insert paths (dir ++ name) h) q ≡ names_of paths q
names_of-insert_other paths dir name h q fits fits' ne = same_map nat_list_cmp_total bytes_exact _ _ (λ x.
    get-names_of q fits' (insert paths (dir ++ name) h) x ∙ get-insert_other paths (dir ++ name) h (q ++ x)
    (λ e. ne (apart_keys dir q name x fits fits' e)) ∙ sym (get-names_of q fits' paths x))

pub names_of-remove_other : (paths : Paths) (dir name q : List ℕ) → length dir ≡ 32 → length q ≡ 32 → q ≢ dir →
    names_of (remove paths (dir ++ name)) q ≡ names_of paths q
names_of-remove_other paths dir name q fits fits' ne = same_map nat_list_cmp_total bytes_exact _ _ (λ x.
    get-names_of q fits' (remove paths (dir ++ name)) x ∙ get-remove_other paths (dir ++ name) (q ++ x)
    (λ e. ne (apart_keys dir q name x fits fits' e)) ∙ sym (get-names_of q fits' paths x))
