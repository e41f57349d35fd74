-- What a node contains, by its kind.
use Rattle.std.proofs.Common.{inl, inr, ◌⊎◌, ◌≡◌, ◌≢◌, ℕ, List, [], length, Some, None, refl, sym, ap, arith}
use Rattle.std.specs.Prelude.{unwrap_or, Bool, true, false}
use Rattle.std.specs.Ordering.{nat_cmp}
use Rattle.std.specs.Cmp.Lexicographic.{slice_cmp, nat_list_cmp_total}
use Rattle.std.specs.FinMap.{insert, remove, empty, get-empty, len-empty}
use Rattle.nfs2_types.specs.declared.fattr.Kind.{Kind}
use Rattle.nfs2_types.specs.declared.fattr.Kind.TheVariants.{File, Dir, Link}
use Rattle.server_trait.specs.Tree.{Content, BytesOf, TextOf, NamesOf, Names, bytes_in, text_in, names_in, kind_of, names_to, used_by}
use Rattle.server_trait.proofs.SumLaws.{total-none}
use Rattle.server_trait.proofs.TreeLaws.{some_none, get-insert_same, get-insert_other, get-remove_other}
use Rattle.path_server.specs.Nodes.{is_dir}
use Rattle.path_server.specs.Bytes.{Contents, bytes_under, content_of}

-- KINDS

pub file_content : (kind : Kind) (bytes : List ℕ) (names : Names) → kind ≡ File →
    content_of kind bytes names ≡ BytesOf bytes
file_content kind bytes names is = ap (λ kind. content_of kind bytes names) is

pub dir_content : (kind : Kind) (bytes : List ℕ) (names : Names) → kind ≡ Dir →
    content_of kind bytes names ≡ NamesOf names
dir_content kind bytes names is = ap (λ kind. content_of kind bytes names) is

pub link_content : (kind : Kind) (bytes : List ℕ) (names : Names) → kind ≡ Link →
    content_of kind bytes names ≡ TextOf bytes
link_content kind bytes names is = ap (λ kind. content_of kind bytes names) is

pub no_bytes : (kind : Kind) (bytes : List ℕ) (names : Names) → kind ≢ File →
    bytes_in (content_of kind bytes names) ≡ None
no_bytes File bytes names ne = absurd (ne refl)
no_bytes Dir bytes names ne = refl
no_bytes Link bytes names ne = refl

pub no_text : (kind : Kind) (bytes : List ℕ) (names : Names) → kind ≢ Link →
    text_in (content_of kind bytes names) ≡ None
no_text File bytes names ne = refl
no_text Dir bytes names ne = refl
no_text Link bytes names ne = absurd (ne refl)

pub no_names : (kind : Kind) (bytes : List ℕ) (names : Names) → kind ≢ Dir →
    names_in (content_of kind bytes names) ≡ None
no_names File bytes names ne = refl
no_names Dir bytes names ne = absurd (ne refl)
no_names Link bytes names ne = refl

-- a directory's content with other names
pub fuller_content : (kind : Kind) (b c : List ℕ) (m n : Names) (f : Names → Names) → kind ≡ Dir → n ≡ f m →
    content_of kind c n ≡ elim (content_of kind b m) as (λ _. Content) [
      | BytesOf x ↦ BytesOf x
      | TextOf x ↦ TextOf x
      | NamesOf m ↦ NamesOf (f m)
    ]
fuller_content File b c m n f is e = absurd (let bad : File ≡ Dir = is in cc)
fuller_content Dir b c m n f is e = ap NamesOf e
fuller_content Link b c m n f is e = absurd (let bad : Link ≡ Dir = is in cc)

-- a node without names contains as much as if it could have none
pub bare_content : (kind : Kind) (bytes : List ℕ) (m : Names) → (kind ≡ Dir → m ≡ empty) →
    content_of kind bytes m ≡ content_of kind bytes empty
bare_content File bytes m none = refl
bare_content Dir bytes m none = ap NamesOf (none refl)
bare_content Link bytes m none = refl

-- the bytes that such a node uses
pub used-bare_dir : (kind : Kind) (bytes : List ℕ) → kind ≡ Dir → 0 ≡ used_by (content_of kind bytes empty)
used-bare_dir kind bytes is =
    let none = len-empty (slice_cmp nat_cmp) (List ℕ) in
    let same = ap (λ kind. used_by (content_of kind bytes empty)) is in
    omega (arith, none, same)

pub used-bare_leaf : (kind : Kind) (bytes : List ℕ) → (kind ≡ File) ⊎ (kind ≡ Link) →
    length bytes ≡ used_by (content_of kind bytes empty)
used-bare_leaf kind bytes (inl is) = ap (λ kind. used_by (content_of kind bytes empty)) (sym is)
used-bare_leaf kind bytes (inr is) = ap (λ kind. used_by (content_of kind bytes empty)) (sym is)

pub its_kind : (kind : Kind) (bytes : List ℕ) (names : Names) → kind_of (content_of kind bytes names) ≡ kind
its_kind File bytes names = refl
its_kind Dir bytes names = refl
its_kind Link bytes names = refl

-- the names of a node that has any are its directory's
pub its_names : (kind : Kind) (bytes : List ℕ) (names m : Names) → names_in (content_of kind bytes names) ≡ Some m →
    names ≡ m
its_names File bytes names m is = absurd (some_none is refl)
its_names Dir bytes names m is = (let same : Some names ≡ Some m = is in cc)
its_names Link bytes names m is = absurd (some_none is refl)

pub has_names : (kind : Kind) (bytes : List ℕ) (names : Names) →
    elim (names_in (content_of kind bytes names)) as (λ _. Bool) [ None ↦ false | Some m ↦ true ] ≡ is_dir kind
has_names File bytes names = refl
has_names Dir bytes names = refl
has_names Link bytes names = refl

-- to nothing do the names of a new node lead
pub names_to-new : (kind : Kind) (bytes q : List ℕ) → names_to q (content_of kind bytes empty) ≡ 0
names_to-new File bytes q = refl
names_to-new Dir bytes q = total-none nat_list_cmp_total _ empty (λ k x is. absurd (some_none is (get-empty
    (slice_cmp nat_cmp) k)))
names_to-new Link bytes q = refl

-- BYTES

pub bytes-insert_same : (contents : Contents) (h b : List ℕ) → bytes_under (insert contents h b) h ≡ b
unfolding bytes_under
bytes-insert_same contents h b = ap (λ o. unwrap_or o []) (get-insert_same contents h b)

pub bytes-insert_other : (contents : Contents) (h b q : List ℕ) → q ≢ h →
    bytes_under (insert contents h b) q ≡ bytes_under contents q
unfolding bytes_under
bytes-insert_other contents h b q ne = ap (λ o. unwrap_or o []) (get-insert_other contents h b q ne)

pub bytes-remove_other : (contents : Contents) (h q : List ℕ) → q ≢ h →
    bytes_under (remove contents h) q ≡ bytes_under contents q
unfolding bytes_under
bytes-remove_other contents h q ne = ap (λ o. unwrap_or o []) (get-remove_other contents h q ne)
