-- What a fetch seeks rises at each level, and lies in the tree.
use Rattle.std.proofs.Common.{◌≡◌, ℕ, zero, suc, ◌+◌, ◌-◌, ◌*◌, ◌^◌, ◌<◌, ◌≤◌, Bool, true, false, cond, List, [], ◌∷◌, ◌++◌, length, map, All, refl, sym, ap, subst, ◌∙◌, arith, get_or}
use Rattle.std.specs.Prelude.{not, bytes_eq, zip}
use Rattle.std.specs.List.Sorted.{IsStrictlyIncreasing}
use Rattle.std.proofs.lemmas.List.{map-append}
use Rattle.std.proofs.lemmas.List.Elements.{All-nil, All-cons}
use Rattle.abs_model.specs.declared.Change.{Change}
use Rattle.abs_text.specs.Text.{node_parts}
use Rattle.cluster_model.specs.Service.{Service}
use Rattle.cluster_model.specs.Tree.{Item, item}
use Rattle.cluster_model.specs.Fair.{IsItem}
use Rattle.partition_tree.specs.Digests.{numbers, digest_at}
use Rattle.partition_tree.specs.Levels.{width}
use Rattle.partition_tree.proofs.Places.{width_step}
use Rattle.state_transfer.specs.Stand.{Own, Stand, differing, expected, settled, begins, after}
use Rattle.state_transfer.specs.Fetch.{Fetch, Adds, change, begun}
use Rattle.state_transfer.specs.Got.{HasGot}
use Rattle.state_transfer.proofs.Walks.{Pair, Gots}

-- Rising numbers

-- each is at least b; each is below b; each is below those behind it
abbrev From : ℕ → List ℕ → Type 0
From b [] = Unit {0}
From b (n ∷ ns) = (b ≤ n) × From b ns

abbrev Upto : ℕ → List ℕ → Type 0
Upto b [] = Unit {0}
Upto b (n ∷ ns) = (n < b) × Upto b ns

abbrev Rising : List ℕ → Type 0
Rising [] = Unit {0}
Rising (n ∷ ns) = From (suc n) ns × Rising ns

from_less : (a b : ℕ) (ns : List ℕ) → a ≤ b → From b ns → From a ns
from_less a b [] le h = tt
from_less a b (n ∷ ns) le h = (let low = h.0 in omega (arith, le, low), from_less a b ns le h.1)

from_zero : (ns : List ℕ) → From 0 ns
from_zero [] = tt
from_zero (n ∷ ns) = (omega arith, from_zero ns)

upto_more : (a b : ℕ) (ns : List ℕ) → a ≤ b → Upto a ns → Upto b ns
upto_more a b [] le h = tt
upto_more a b (n ∷ ns) le h = (let low = h.0 in omega (arith, le, low), upto_more a b ns le h.1)

upto_append : (b : ℕ) (ms ns : List ℕ) → Upto b ms → Upto b ns → Upto b (ms ++ ns)
upto_append b [] ns h g = g
upto_append b (m ∷ ms) ns h g = (h.0, upto_append b ms ns h.1 g)

from_append : (b : ℕ) (ms ns : List ℕ) → From b ms → From b ns → From b (ms ++ ns)
from_append b [] ns h g = g
from_append b (m ∷ ms) ns h g = (h.0, from_append b ms ns h.1 g)

rising_append : (b : ℕ) (ms ns : List ℕ) → Rising ms → Upto b ms → Rising ns → From b ns → Rising (ms ++ ns)
rising_append b [] ns h u g f = g
rising_append b (m ∷ ms) ns h u g f =
    (from_append (suc m) ms ns h.0 (from_less (suc m) b ns u.0 f), rising_append b ms ns h.1 u.1 g f)

rising_strictly : (ns : List ℕ) → Rising ns → (k : ℕ) → suc k < length ns → get_or ns k 0 < get_or ns (suc k) 0
rising_strictly [] h k lt = absurd (omega (arith, lt))
rising_strictly (m ∷ []) h k lt = absurd (omega (arith, lt))
rising_strictly (m ∷ n ∷ ns) h zero lt = h.0.0
rising_strictly (m ∷ n ∷ ns) h (suc k) lt = rising_strictly (n ∷ ns) h.1 k (omega (arith, lt))

increasing : (ns : List ℕ) → Rising ns → IsStrictlyIncreasing ns
increasing ns h k lt =
    let e : suc k ≡ k + 1 = omega arith in
    subst (λ (j : ℕ). get_or ns k 0 < get_or ns j 0) e (rising_strictly ns h k (omega (arith, lt)))

-- Numbers in a row that are wanted

abbrev nums : List Pair → List ℕ
nums xs = map (λ x. x.0) xs

record InRow (s n : ℕ) (xs : List Pair) : Type 0 where
  rising : Rising (nums xs)
  from : From s (nums xs)
  upto : Upto (s + n) (nums xs)

in_row : (own : Own) (l s n : ℕ) (ts : List (List ℕ)) → InRow s n (differing own l (zip (numbers s n) ts))
in_row own l s zero ts = record { rising = tt; from = tt; upto = tt }
in_row own l s (suc n) [] = record { rising = tt; from = tt; upto = tt }
in_row own l s (suc n) (t ∷ ts) = go (not (bytes_eq (own l s) t)) (in_row own l (suc s) n ts)
  where
    go : (b : Bool) → InRow (suc s) n (differing own l (zip (numbers (suc s) n) ts)) →
        InRow s (suc n) (cond b ((s, t) ∷ differing own l (zip (numbers (suc s) n) ts))
        (differing own l (zip (numbers (suc s) n) ts)))
    go true k = record {
      rising = (k.from, k.rising);
      from = (omega arith, from_less s (suc s) (nums (differing own l (zip (numbers (suc s) n) ts))) (omega arith) k.from);
      upto = (
        omega arith,
        upto_more (suc s + n) (s + suc n) (nums (differing own l (zip (numbers (suc s) n) ts)))
            (omega arith) k.upto,
      );
    }
    go false k = record {
      rising = k.rising;
      from = from_less s (suc s) (nums (differing own l (zip (numbers (suc s) n) ts))) (omega arith) k.from;
      upto = upto_more (suc s + n) (s + suc n) (nums (differing own l (zip (numbers (suc s) n) ts))) (omega arith) k.upto;
    }

-- Where a fetch stands, in a tree of so many levels, with these indexes changed

record IsOrdered (levels l : ℕ) (rest lower : List Pair) (cs : List ℕ) (b : ℕ) : Type 0 where
  inside : l ≤ levels
  rest_in : Upto (width levels l) (nums rest)
  lower_in : (m : ℕ) → l ≡ suc m → Upto (width levels m) (nums lower)
  rest_rises : Rising (nums rest)
  rest_from : From b (nums rest)
  lower_rises : Rising (nums lower)
  lower_upto : Upto (16 * b) (nums lower)
  changes_rise : Rising cs
  changes_upto : Upto b cs
  none : 0 < l → cs ≡ []

abbrev OrderedStand : ℕ → Stand → List ℕ → Type 0
OrderedStand levels s cs = (b : ℕ) × IsOrdered levels s.level s.rest s.lower cs b

abbrev stand : ℕ → List Pair → List Pair → Stand
stand level rest lower = record { level = level; rest = rest; lower = lower }

ordered_settled : (levels l : ℕ) (rest lower : List Pair) (cs : List ℕ) (b : ℕ) → IsOrdered levels l rest lower cs b →
    OrderedStand levels (settled l rest lower) cs
ordered_settled levels zero rest lower cs b k = (
  b,
  record {
    inside = k.inside;
    rest_in = k.rest_in;
    lower_in = λ m e. tt;
    rest_rises = k.rest_rises;
    rest_from = k.rest_from;
    lower_rises = tt;
    lower_upto = tt;
    changes_rise = k.changes_rise;
    changes_upto = k.changes_upto;
    none = k.none;
  },
)
ordered_settled levels (suc l) [] lower cs b k =
    let empty : cs ≡ [] = k.none (omega arith) in
    ordered_settled levels l lower [] cs 0 (record {
      inside = let le = k.inside in omega (arith, le);
      rest_in = k.lower_in l refl;
      lower_in = λ m e. tt;
      rest_rises = k.lower_rises;
      rest_from = from_zero (nums lower);
      lower_rises = tt;
      lower_upto = tt;
      changes_rise = k.changes_rise;
      changes_upto = subst (Upto 0) (sym empty) tt;
      none = λ some. empty;
    })
ordered_settled levels (suc l) (x ∷ xs) lower cs b k = (b, k)

abbrev indexes : List Change → List ℕ
indexes cs = map (λ c. c.index) cs

-- one text more
ordered_on : (own : Own) (levels l : ℕ) (x : Pair) (xs lower : List Pair) (t : List ℕ) (old new : List Change) →
    OrderedStand levels (stand l (x ∷ xs) lower) (indexes old) → Adds l x.0 t old new →
    OrderedStand levels (after own (stand l (x ∷ xs) lower) t) (indexes new)
ordered_on own levels zero x xs lower t old new (b, k) a =
    let more : indexes new ≡ indexes old ++ x.0 ∷ []
    = ap indexes a.2 ∙ map-append (λ (c : Change). c.index) old (change x.0 a.0 ∷ []) in
    let low : b ≤ x.0 = k.rest_from.0 in (
      suc x.0,
      record {
        inside = k.inside;
        rest_in = k.rest_in.1;
        lower_in = λ m e. tt;
        rest_rises = k.rest_rises.1;
        rest_from = k.rest_rises.0;
        lower_rises = tt;
        lower_upto = tt;
        changes_rise = subst Rising (sym more)
            (rising_append b (indexes old) (x.0 ∷ []) k.changes_rise k.changes_upto (tt, tt) (low, tt));
        changes_upto = subst (Upto (suc x.0)) (sym more) (upto_append (suc x.0) (indexes old) (x.0 ∷ [])
            (upto_more b (suc x.0) (indexes old) (omega (arith, low)) k.changes_upto) (omega arith, tt));
        none = λ some. absurd (omega (arith, some));
      },
    )
ordered_on own levels (suc l) x xs lower t old new (b, k) a =
    let low : b ≤ x.0 = k.rest_from.0 in
    let le : suc l ≤ levels = k.inside in
    let here : x.0 < width levels (suc l) = k.rest_in.0 in
    let wide : width levels l ≡ 16 * width levels (suc l) = width_step levels l (omega (arith, le)) in
    let add = differing own l (expected x.0 t) in
    let row = in_row own l (16 * x.0) 16 (node_parts t) in
    let both : nums (lower ++ add) ≡ nums lower ++ nums add = map-append (λ (x : Pair). x.0) lower add in
    let empty : indexes old ≡ [] = k.none (omega arith) in
    let changed : indexes old ≡ indexes new = ap indexes (sym a) in
    ordered_settled levels (suc l) xs (lower ++ add) (indexes new) (suc x.0) (record {
      inside = le;
      rest_in = k.rest_in.1;
      lower_in = λ m e. (let same : l ≡ m = omega (arith, e) in
          subst (λ (m : ℕ). Upto (width levels m) (nums (lower ++ add))) same
          (subst (Upto (width levels l)) (sym both) (upto_append (width levels l) (nums lower) (nums add) (k.lower_in l refl)
          (upto_more (16 * x.0 + 16) (width levels l) (nums add) (omega (arith, here, wide)) row.upto))));
      rest_rises = k.rest_rises.1;
      rest_from = k.rest_rises.0;
      lower_rises = subst Rising (sym both)
          (rising_append (16 * b) (nums lower) (nums add) k.lower_rises k.lower_upto row.rising
          (from_less (16 * b) (16 * x.0) (nums add) (omega (arith, low)) row.from));
      lower_upto = subst (Upto (16 * suc x.0)) (sym both) (upto_append (16 * suc x.0) (nums lower) (nums add)
          (upto_more (16 * b) (16 * suc x.0) (nums lower) (omega (arith, low)) k.lower_upto)
          (upto_more (16 * x.0 + 16) (16 * suc x.0) (nums add) (omega arith) row.upto));
      changes_rise = subst Rising changed (subst Rising (sym empty) tt);
      changes_upto = subst (Upto (suc x.0)) changed (subst (Upto (suc x.0)) (sym empty) tt);
      none = λ some. sym changed ∙ empty;
    })

-- a whole fetch

step : (f : Fetch) (x : Pair) (xs : List Pair) (t : List ℕ) (next : Fetch) (levels : ℕ) → f.stand.rest ≡ x ∷ xs →
    next.stand ≡ after (digest_at f.own) f.stand t → Adds f.stand.level x.0 t f.changes next.changes →
    OrderedStand levels f.stand (indexes f.changes) → OrderedStand levels next.stand (indexes next.changes)
step f x xs t next levels e stands adds k =
    let is : f.stand ≡ stand f.stand.level (x ∷ xs) f.stand.lower
    = ap (λ (r : List Pair). stand f.stand.level r f.stand.lower) e in
    subst (λ (s : Stand). OrderedStand levels s (indexes next.changes)) (sym stands)
    (subst (λ (s : Stand). OrderedStand levels (after (digest_at f.own) s t) (indexes next.changes)) (sym is)
    (ordered_on (digest_at f.own) levels f.stand.level x xs f.stand.lower t f.changes next.changes
    (subst (λ (s : Stand). OrderedStand levels s (indexes f.changes)) is k) adds))

ordered_got : (levels : ℕ) (f : Fetch) (got : Gots) (end : Fetch) → HasGot f got end →
    OrderedStand levels f.stand (indexes f.changes) → OrderedStand levels end.stand (indexes end.changes)
ordered_got levels f [] end h k = subst (λ (f : Fetch). OrderedStand levels f.stand (indexes f.changes)) (sym h) k
ordered_got levels f (g ∷ got) end h k =
    ordered_got levels h.2 got end h.6 (step f h.0 h.1 g.1 h.2 levels h.3 h.5.stand h.5.changes k)

items_inside : (S : Service) (f : Fetch) (got : Gots) (end : Fetch) → HasGot f got end →
    OrderedStand S.levels f.stand (indexes f.changes) → All (λ g. IsItem S g.0) got
items_inside S f [] end h k = All-nil (λ (g : Item × List ℕ). IsItem S g.0)
items_inside S f (g ∷ got) end h k =
    All-cons (λ (g : Item × List ℕ). IsItem S g.0) g got here
    (items_inside S h.2 got end h.6 (step f h.0 h.1 g.1 h.2 S.levels h.3 h.5.stand h.5.changes k))
  where
    here : IsItem S g.0
    here =
        let first = subst (λ (r : List Pair). Upto (width S.levels f.stand.level) (nums r)) h.3 k.1.rest_in in
        subst (IsItem S) (sym h.4) (k.1.inside, first.0)

ordered_begun : (own : List (List ℕ)) (place levels : ℕ) (root : List ℕ) →
    OrderedStand levels (begun own place levels root).stand []
ordered_begun own place levels root =
    ordered_settled levels levels (differing (digest_at own) levels ((0, root) ∷ [])) [] [] 0
    (go (not (bytes_eq (digest_at own levels 0) root)))
  where
    top : 0 < width levels levels
    top = let e : levels - levels ≡ 0 = omega arith in
        subst (λ (n : ℕ). 0 < 16 ^ n) (sym e) (omega arith)

    go : (b : Bool) → IsOrdered levels levels (cond b ((0, root) ∷ []) []) [] [] 0
    go true = record {
      inside = omega arith;
      rest_in = (top, tt);
      lower_in = λ m e. tt;
      rest_rises = (tt, tt);
      rest_from = (omega arith, tt);
      lower_rises = tt;
      lower_upto = tt;
      changes_rise = tt;
      changes_upto = tt;
      none = λ some. refl;
    }
    go false = record {
      inside = omega arith;
      rest_in = tt;
      lower_in = λ m e. tt;
      rest_rises = tt;
      rest_from = tt;
      lower_rises = tt;
      lower_upto = tt;
      changes_rise = tt;
      changes_upto = tt;
      none = λ some. refl;
    }

pub changes_rise : (own : List (List ℕ)) (place levels : ℕ) (root : List ℕ) (got : Gots) (end : Fetch) →
    HasGot (begun own place levels root) got end → IsStrictlyIncreasing (map (λ c. c.index) end.changes)
changes_rise own place levels root got end h =
    increasing (indexes end.changes)
    (ordered_got levels (begun own place levels root) got end h (ordered_begun own place levels root)).1.changes_rise

pub got_inside : (S : Service) (own : List (List ℕ)) (place : ℕ) (root : List ℕ) (got : Gots) (end : Fetch) →
    HasGot (begun own place S.levels root) got end → All (λ g. IsItem S g.0) got
got_inside S own place root got end h =
    items_inside S (begun own place S.levels root) got end h (ordered_begun own place S.levels root)

-- what is next lies in the tree
pub next_inside : (S : Service) (own : List (List ℕ)) (place levels : ℕ) (root : List ℕ) (got : Gots) (end : Fetch) →
    levels ≡ S.levels → HasGot (begun own place levels root) got end → (x : Pair) (xs : List Pair) →
    end.stand.rest ≡ x ∷ xs → IsItem S (item end.stand.level x.0)
next_inside S own place levels root got end same h x xs rest =
    let ordered = ordered_got levels (begun own place levels root) got end h (ordered_begun own place levels root) in
    let first = subst (λ (r : List Pair). Upto (width levels end.stand.level) (nums r)) rest ordered.1.rest_in in
    subst (λ (n : ℕ). (end.stand.level ≤ n) × (x.0 < 16 ^ (n - end.stand.level))) same (ordered.1.inside, first.0)
