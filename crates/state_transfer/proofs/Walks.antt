-- What a fetch got is a walk of the model.
use Rattle.std.proofs.Common.{◌≡◌, ℕ, zero, suc, ◌+◌, ◌*◌, ◌^◌, ◌<◌, ◌≤◌, List, [], ◌∷◌, ◌++◌, length, All, refl, sym, ap, subst, ◌∙◌, arith}
use Rattle.std.specs.Prelude.{not, bytes_eq, zip, ◌↔◌}
use Rattle.std.proofs.lemmas.List.Elements.{All-nil, All-cons, filter-append}
use Rattle.abs_text.specs.Text.{node_text, node_parts}
use Rattle.abs_text.specs.Node.{IsNodeText}
use Rattle.cluster_model.specs.Service.{Service}
use Rattle.cluster_model.specs.Tree.{Item, item, children}
use Rattle.cluster_model.specs.Walk.{sought, IsGotAt, IsWalk, IsAllGotAt, IsWholeWalk, IsFormed}
use Rattle.partition_tree.specs.Digests.{digest_at}
use Rattle.state_transfer.specs.Stand.{Own, Stand, differing, expected, settled, begins, after}
use Rattle.state_transfer.specs.Fetch.{Fetch, HasForm, Fits, begun}
use Rattle.state_transfer.specs.Got.{IsReal, HasGot}
use Rattle.state_transfer.proofs.Reals.{sought_is, expected_is}

abbrev pub Pair : Type 0
Pair = ℕ × List ℕ

abbrev pub Gots : Type 0
Gots = List (Item × List ℕ)

-- the same as HasGot, of where a fetch stands alone
abbrev pub HasRun : Own → Stand → Gots → Stand → Type 0
HasRun own s [] end = end ≡ s
HasRun own s (g ∷ got) end = (x : Pair) × (xs : List Pair) × (s.rest ≡ x ∷ xs) × (g.0 ≡ item s.level x.0)
    × Fits s.level x g.1 × HasRun own (after own s g.1) got end

pub run_of : (f : Fetch) (got : Gots) (end : Fetch) → HasGot f got end → HasRun (digest_at f.own) f.stand got end.stand
run_of f [] end h = ap (λ (f : Fetch). f.stand) h
run_of f (g ∷ got) end h =
    let next = h.2 in
    let t = h.5 in
    let r = run_of next got end h.6 in (
      h.0,
      h.1,
      h.3,
      h.4,
      t.fits,
      subst (λ (o : List (List ℕ)). HasRun (digest_at o) (after (digest_at f.own) f.stand g.1) got end.stand) t.same.0
          (subst (λ (s : Stand). HasRun (digest_at next.own) s got end.stand) t.stand r),
    )

abbrev stand : ℕ → List Pair → List Pair → Stand
stand level rest lower = record { level = level; rest = rest; lower = lower }

nothing : (x : Pair) (xs : List Pair) (A : Type 0) → (let none : List Pair = [] in none) ≡ x ∷ xs → A
nothing x xs A e = absurd (cc)

something : (x : Pair) (xs : List Pair) (A : Type 0) → x ∷ xs ≡ [] → A
something x xs A e = absurd (cc)

head_same : (x y : Pair) (xs ys : List Pair) → x ∷ xs ≡ y ∷ ys → x ≡ y
head_same x y xs ys e = cc

module _ (S : Service) (real : IsReal S) (leaves : List (List ℕ)) (end : Stand) where
  abbrev own : Own
  own = digest_at leaves

  abbrev below : ℕ → List ℕ → List Pair
  below k t = zip (children k) (S.parts t)

  -- one item of a walk
  one_item : (l : ℕ) (x y : Pair) (g : Item × List ℕ) → x ≡ y → g.0 ≡ item l y.0 → Fits l y g.1 →
      (g.0 ≡ item l x.0) × (S.digest g.1 ≡ x.1)
  one_item l x y g e i f = (
    i ∙ ap (λ (z : Pair). item l z.0) (sym e),
    real.digest g.1 ∙ f.digest ∙ ap (λ (z : Pair). z.1) (sym e),
  )

  -- what is wanted lower down, with the sixteen below one more node
  lowered : (l : ℕ) (low : List Pair) (k : ℕ) (t : List ℕ) →
      differing own l low ++ differing own l (expected k t) ≡ differing own l (low ++ below k t)
  lowered l low k t =
      sym (filter-append (λ (x : Pair). not (bytes_eq (own l x.0) x.1)) low (expected k t))
      ∙ ap (λ (xs : List Pair). differing own l (low ++ xs)) (sym (expected_is S real leaves k t))

  goes_down : (l : ℕ) (xs low : List Pair) (k : ℕ) (t : List ℕ) (got : Gots) →
      HasRun own (settled (suc l) xs (differing own l low ++ differing own l (expected k t))) got end →
      HasRun own (settled (suc l) xs (differing own l (low ++ below k t))) got end
  goes_down l xs low k t got h =
      subst (λ (ys : List Pair). HasRun own (settled (suc l) xs ys) got end) (lowered l low k t) h

  -- as far as it came

  entries_walk : (rest low : List Pair) (got : Gots) → HasRun own (stand 0 rest []) got end →
      IsGotAt S (λ lower rest. rest ≡ []) 0 rest low got
  entries_walk [] low [] h = refl
  entries_walk [] low (g ∷ got) h = nothing h.0 h.1 (g ∷ got ≡ []) h.2
  entries_walk (x ∷ xs) low [] h = tt
  entries_walk (x ∷ xs) low (g ∷ got) h =
      let one = one_item 0 x h.0 g (head_same x h.0 xs h.1 h.2) h.3 h.4 in
      (one.0, one.1, entries_walk xs (low ++ below x.0 g.1) got h.5)

  nodes_walk : (l : ℕ) → ((fr : List Pair) (got : Gots) → HasRun own (settled l (differing own l fr) []) got end →
      IsWalk S leaves l fr got) → (rest low : List Pair) (got : Gots) →
      HasRun own (settled (suc l) rest (differing own l low)) got end →
      IsGotAt S (λ lower rest. IsWalk S leaves l lower rest) (suc l) rest low got
  nodes_walk l then [] low got h = then low got h
  nodes_walk l then (x ∷ xs) low [] h = tt
  nodes_walk l then (x ∷ xs) low (g ∷ got) h =
      let one = one_item (suc l) x h.0 g (head_same x h.0 xs h.1 h.2) h.3 h.4 in
      (one.0, one.1, nodes_walk l then xs (low ++ below x.0 g.1) got (goes_down l xs low x.0 g.1 got h.5))

  pub walk : (l : ℕ) (fr : List Pair) (got : Gots) → HasRun own (settled l (differing own l fr) []) got end →
      IsWalk S leaves l fr got
  walk zero fr got h = subst (λ (xs : List Pair). IsGotAt S (λ lower rest. rest ≡ []) 0 xs [] got)
      (sym (sought_is S real leaves 0 fr)) (entries_walk (differing own 0 fr) [] got h)
  walk (suc l) fr got h =
      subst (λ (xs : List Pair). IsGotAt S (λ lower rest. IsWalk S leaves l lower rest) (suc l) xs [] got)
      (sym (sought_is S real leaves (suc l) fr)) (nodes_walk l (walk l) (differing own (suc l) fr) [] got h)

  -- with nothing missing it is whole

  module _ (none : end.rest ≡ []) where
    stopped : (l : ℕ) (x : Pair) (xs low : List Pair) → end ≡ stand l (x ∷ xs) low → ⊥
    stopped l x xs low h = something x xs ⊥ (ap (λ (s : Stand). s.rest) (sym h) ∙ none)

    entries_whole : (rest low : List Pair) (got : Gots) → HasRun own (stand 0 rest []) got end →
        IsAllGotAt S (λ lower rest. rest ≡ []) 0 rest low got
    entries_whole [] low [] h = refl
    entries_whole [] low (g ∷ got) h = nothing h.0 h.1 (g ∷ got ≡ []) h.2
    entries_whole (x ∷ xs) low [] h = stopped 0 x xs [] h
    entries_whole (x ∷ xs) low (g ∷ got) h =
        let one = one_item 0 x h.0 g (head_same x h.0 xs h.1 h.2) h.3 h.4 in
        (one.0, one.1, entries_whole xs (low ++ below x.0 g.1) got h.5)

    nodes_whole : (l : ℕ) → ((fr : List Pair) (got : Gots) → HasRun own (settled l (differing own l fr) []) got end →
        IsWholeWalk S leaves l fr got) → (rest low : List Pair) (got : Gots) →
        HasRun own (settled (suc l) rest (differing own l low)) got end →
        IsAllGotAt S (λ lower rest. IsWholeWalk S leaves l lower rest) (suc l) rest low got
    nodes_whole l then [] low got h = then low got h
    nodes_whole l then (x ∷ xs) low [] h = stopped (suc l) x xs (differing own l low) h
    nodes_whole l then (x ∷ xs) low (g ∷ got) h =
        let one = one_item (suc l) x h.0 g (head_same x h.0 xs h.1 h.2) h.3 h.4 in
        (one.0, one.1, nodes_whole l then xs (low ++ below x.0 g.1) got (goes_down l xs low x.0 g.1 got h.5))

    pub whole : (l : ℕ) (fr : List Pair) (got : Gots) → HasRun own (settled l (differing own l fr) []) got end →
        IsWholeWalk S leaves l fr got
    whole zero fr got h = subst (λ (xs : List Pair). IsAllGotAt S (λ lower rest. rest ≡ []) 0 xs [] got)
        (sym (sought_is S real leaves 0 fr)) (entries_whole (differing own 0 fr) [] got h)
    whole (suc l) fr got h =
        subst (λ (xs : List Pair). IsAllGotAt S (λ lower rest. IsWholeWalk S leaves l lower rest) (suc l) xs [] got)
        (sym (sought_is S real leaves (suc l) fr)) (nodes_whole l (whole l) (differing own (suc l) fr) [] got h)

  -- and where it is whole nothing is missing

  entries_done : (rest low : List Pair) (got : Gots) → HasRun own (stand 0 rest []) got end →
      IsAllGotAt S (λ lower rest. rest ≡ []) 0 rest low got → end.rest ≡ []
  entries_done [] low [] h w = ap (λ (s : Stand). s.rest) h
  entries_done [] low (g ∷ got) h w = nothing h.0 h.1 (end.rest ≡ []) h.2
  entries_done (x ∷ xs) low [] h w = absurd w
  entries_done (x ∷ xs) low (g ∷ got) h w = entries_done xs (low ++ below x.0 g.1) got h.5 w.2

  nodes_done : (l : ℕ) → ((fr : List Pair) (got : Gots) → HasRun own (settled l (differing own l fr) []) got end →
      IsWholeWalk S leaves l fr got → end.rest ≡ []) → (rest low : List Pair) (got : Gots) →
      HasRun own (settled (suc l) rest (differing own l low)) got end →
      IsAllGotAt S (λ lower rest. IsWholeWalk S leaves l lower rest) (suc l) rest low got → end.rest ≡ []
  nodes_done l then [] low got h w = then low got h w
  nodes_done l then (x ∷ xs) low [] h w = absurd w
  nodes_done l then (x ∷ xs) low (g ∷ got) h w =
      nodes_done l then xs (low ++ below x.0 g.1) got (goes_down l xs low x.0 g.1 got h.5) w.2

  pub done : (l : ℕ) (fr : List Pair) (got : Gots) → HasRun own (settled l (differing own l fr) []) got end →
      IsWholeWalk S leaves l fr got → end.rest ≡ []
  done zero fr got h w = entries_done (differing own 0 fr) [] got h
      (subst (λ (xs : List Pair). IsAllGotAt S (λ lower rest. rest ≡ []) 0 xs [] got) (sought_is S real leaves 0 fr) w)
  done (suc l) fr got h w = nodes_done l (done l) (differing own (suc l) fr) [] got h
      (subst (λ (xs : List Pair). IsAllGotAt S (λ lower rest. IsWholeWalk S leaves l lower rest) (suc l) xs [] got)
      (sought_is S real leaves (suc l) fr) w)

  -- the texts of nodes are of the grammar
  pub formed : (s : Stand) (got : Gots) → HasRun own s got end → All (IsFormed S) got
  formed s [] h = All-nil (IsFormed S)
  formed s (g ∷ got) h = All-cons (IsFormed S) g got here (formed (after own s g.1) got h.5)
    where
      here : IsFormed S g
      here l e =
          let level : s.level ≡ suc l = ap (λ (i : Item). i.level) (sym h.3) ∙ e in
          let number : h.0.0 ≡ g.0.number = ap (λ (i : Item). i.number) (sym h.3) in
          let form = subst (λ (m : ℕ). HasForm m h.0.0 g.1) level h.4.form in
          let text = subst (λ (k : ℕ). IsNodeText (suc l) k g.1) number form in (
            ap length (real.parts g.1),
            real.node (suc l) g.0.number (S.parts g.1) ∙ ap (node_text (suc l) g.0.number) (real.parts g.1) ∙ text.spelled,
          )

-- all of it together, for any service with the real texts of nodes and digests
pub fetch_walks : (S : Service) → IsReal S → (own : List (List ℕ)) (place : ℕ) (root : List ℕ) (got : Gots)
    (end : Fetch) → HasGot (begun own place S.levels root) got end →
    IsWalk S own S.levels ((0, root) ∷ []) got × All (IsFormed S) got
    × ((end.stand.rest ≡ []) ↔ IsWholeWalk S own S.levels ((0, root) ∷ []) got)
fetch_walks S real own place root got end h =
    let first : Fetch = begun own place S.levels root in
    let run = run_of first got end h in
    let fr = (0, root) ∷ [] in (
      walk S real own end.stand S.levels fr got run,
      formed S real own end.stand first.stand got run,
      (λ none. whole S real own end.stand none S.levels fr got run, λ w. done S real own end.stand S.levels fr got run w),
    )
