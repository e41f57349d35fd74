-- A piece that is handed to a server until all of it is taken.
use Rattle.std.proofs.Common.{◌≡◌, ℕ, ◌+◌, ◌-◌, ◌≤◌, ◌<◌, max, arith, true, false, List, length, take, drop, Option, Some, Ok, Err, is_some, refl, sym, ap, ◌∙◌, subst, length-drop, inl, inr}
use Rattle.std.specs.Prelude.{◌==◌}
use Rattle.std.proofs.lemmas.Bool.{cond-true, cond-false}
use Rattle.std.proofs.lemmas.List.{length-take-le, take_rest}
use Rattle.nfs2_types.specs.Bytes.{resized, overwritten}
use Rattle.abs_model.specs.Objects.{written}
use Rattle.server_trait.specs.Tree.{Tree, Server, bytes_at, edited, with_bytes}
use Rattle.server_trait.specs.Step.{HasTree, IsBroken, NoRoom}
use Rattle.server_trait.specs.Calls.{Write, WriteErr, Wrote}
use Rattle.server_trait.specs.declared.server.SrvErr.{SrvErr}
use Rattle.server_trait.specs.declared.server.SrvErr.TheVariants.{Refused, Full}
use Rattle.server_trait.proofs.SoftLaws.{write_soft, failed}
use Rattle.server_trait.proofs.TreeLaws.{some_and, some_same}
use Rattle.node_changes.specs.Puts.{CanHold, size_after}
use Rattle.node_changes.proofs.ByteLaws.{length-overwritten, length-resized, overwritten_none, overwritten_more, overwritten_filled, resized_same}
use Rattle.node_changes.proofs.Edits.{bytes_same, bytes_twice, holds_less, holds_edited}

-- ONE WRITE

-- A write of bytes for which there is room, at an offset within the file, has no error.
module _ (s : Server) (h b : List ℕ) (o count : ℕ) (c : CanHold s h b (max (length b) (o + count)))
    (start : o ≤ length b) where
  room : (x : List ℕ) → bytes_at c.tree h ≡ Some x →
      NoRoom s.limits c.tree 0 (length x) (max (length x) (o + count)) → ⊥
  room x is over =
      let same = ap length (some_same is c.has_bytes) in
      let nodes = c.room.0 in
      let bytes = c.room.1 in
      elim over [ inl few ↦ omega (arith, few, nodes) | inr few ↦ omega (arith, few, bytes, same) ]

  no_error_here : (e : SrvErr) → ¬ (WriteErr s.limits h o count c.tree e)
  no_error_here Refused a = let k = some_and (bytes_at c.tree h) (λ x. length x < o) a in let past = k.2 in let same =
      ap length (some_same k.1 c.has_bytes) in omega (arith, past, same, start)
  no_error_here Full a = let k =
      some_and (bytes_at c.tree h) (λ x. NoRoom s.limits c.tree 0 (length x) (max (length x) (o + count))) a in
      room k.0 k.1 k.2
  no_error_here e a = write_soft s.limits c.tree h b o count c.has_bytes e a

  pub no_error : (t : Tree) → s.tree ≡ Some t → (e : SrvErr) → ¬ (WriteErr s.limits h o count t e)
  no_error t is e = subst (λ t. ¬ (WriteErr s.limits h o count t e)) (some_same c.has_tree is) (no_error_here e)

-- ALL WRITES

-- the server has put a piece into its file, and has not failed
pub record HasTaken (old now : Server) (h : List ℕ) (o : ℕ) (p : List ℕ) : Type 0 where
  pub tree : (t : Tree) → old.tree ≡ Some t → now.tree ≡ Some (edited t h (with_bytes (overwritten o p)))
  pub limits : now.limits ≡ old.limits
  pub faults : now.faults ≡ old.faults

-- the bytes of the file of a tree
pub bytes_there : (s : Server) (h b : List ℕ) (size : ℕ) → CanHold s h b size → (t : Tree) → s.tree ≡ Some t →
    bytes_at t h ≡ Some b
bytes_there s h b size c t is = ap (λ t. bytes_at t h) (some_same is c.has_tree) ∙ c.has_bytes

module _ (old : Server) (h b : List ℕ) (o : ℕ) (p : List ℕ) (c : CanHold old h b (max (length b) (o + length p)))
    (start : o ≤ length b) where
  -- at first
  pub none_taken : HasTaken old old h o (take 0 p)
  none_taken = record {
    tree = λ t is. is
        ∙ ap Some (sym (bytes_same t h b (bytes_there old h b (max (length b) (o + length p)) c t is)
        (overwritten o (take 0 p)) (overwritten_none o b start)));
    limits = refl;
    faults = refl;
  }

  module _ (now : Server) (done : ℕ) (below : done < length p) (k : HasTaken old now h o (take done p)) where
    abbrev part : List ℕ
    part = overwritten o (take done p) b

    long : length part ≡ max (length b) (o + done)
    long = let all = length-overwritten o (take done p) b in let short = length-take-le done p (omega arith) in
        omega (arith, all, short)

    holds : CanHold now h part (max (length part) (o + done + length (drop done p)))
    holds = holds_edited old now h b (max (length b) (o + length p)) c (overwritten o (take done p))
        (k.tree c.tree c.has_tree) k.limits
        (max (length part) (o + done + length (drop done p)))
        (let rest = length-drop done p in omega (arith, long, rest, below))

    pub still_has : HasTree now
    still_has = ap is_some (k.tree c.tree c.has_tree)

    -- the next write can only fail
    pub write_fails : (e : SrvErr) (next : Server) →
        Write now h (o + done) (take (length p - done) (drop done p)) (Err e) next → IsBroken e
    write_fails e next whole =
        let w = subst (λ l. Write now h (o + done) l (Err e) next) (take_rest p done) whole in
        let t1 = edited c.tree h (with_bytes (overwritten o (take done p))) in
        failed {T = ℕ} (Wrote t1 h (o + done) (drop done p))
        (WriteErr now.limits h (o + done) (length (drop done p)) t1) t1 e next.tree
        (no_error now h part (o + done) (length (drop done p)) holds (omega (arith, long)) t1
        (k.tree c.tree c.has_tree)) (w.tree t1 (k.tree c.tree c.has_tree))

    module _ (count : ℕ) (next : Server)
        (whole : Write now h (o + done) (take (length p - done) (drop done p)) (Ok count) next) where
      w : Write now h (o + done) (drop done p) (Ok count) next
      w = subst (λ l. Write now h (o + done) l (Ok count) next) (take_rest p done) whole

      wrote : (t : Tree) → old.tree ≡ Some t →
          Wrote (edited t h (with_bytes (overwritten o (take done p)))) h (o + done) (drop done p) count next.tree
      wrote t is = (w.tree (edited t h (with_bytes (overwritten o (take done p)))) (k.tree t is)).0

      -- or takes bytes of the piece
      pub some_taken : 1 ≤ count
      some_taken = (wrote c.tree c.has_tree).some

      pub most_taken : done + count ≤ length p
      most_taken = let most = (wrote c.tree c.has_tree).most in let rest = length-drop done p in
          omega (arith, most, rest, below)

      pub more_taken : HasTaken old next h o (take (done + count) p)
      more_taken = record {
        tree = λ t is.
            (wrote t is).after
            ∙ ap Some (bytes_twice t h b (bytes_there old h b (max (length b) (o + length p)) c t is)
            (overwritten o (take done p)) (overwritten (o + done) (take count (drop done p)))
            (overwritten o (take (done + count) p))
            (overwritten_more o done count p b most_taken));
        limits = w.limits ∙ k.limits;
        faults = w.faults ∙ k.faults;
      }

-- A GAP, AND NO BYTES

-- a file that is as long as the offset has no gap
pub no_gap : (s : Server) (h : List ℕ) (size o : ℕ) →
    ((b : List ℕ) × CanHold s h b (max (length b) o) × (length b ≡ size)) → o ≤ size →
    (t : Tree) (b : List ℕ) → s.tree ≡ Some t → bytes_at t h ≡ Some b →
    s.tree ≡ Some (edited t h (with_bytes (resized (max (length b) o))))
no_gap s h size o k within t b is at =
    let same = ap length (some_same (bytes_there s h k.0 (max (length k.0) o) k.1 t is) at) in
    let long = k.2 in
    is ∙ ap Some (sym (bytes_same t h b at (resized (max (length b) o))
    (resized_same (max (length b) o) b (omega (arith, same, long, within)))))

-- no bytes change nothing
pub nothing_put : (s : Server) (h : List ℕ) (size o : ℕ) (p : List ℕ) →
    ((b : List ℕ) × CanHold s h b (size_after o (length p) (length b)) × (length b ≡ size)) → (length p == 0) ≡ true →
    (t : Tree) → s.tree ≡ Some t → s.tree ≡ Some (edited t h (with_bytes (written o p)))
nothing_put s h size o p k none t is =
    is ∙ ap Some (sym (bytes_same t h k.0 (bytes_there s h k.0 (size_after o (length p) (length k.0)) k.1 t is)
    (written o p) (cond-true (length p == 0) k.0 (overwritten o p k.0) none)))

module _ (s : Server) (h : List ℕ) (size o : ℕ) (p : List ℕ)
    (k : (b : List ℕ) × CanHold s h b (size_after o (length p) (length b)) × (length b ≡ size))
    (some : (length p == 0) ≡ false) where
  abbrev was : List ℕ
  was = k.0

  abbrev filled_up : List ℕ → List ℕ
  filled_up = resized (max (length was) o)

  whole : CanHold s h was (max (length was) (o + length p))
  whole = subst (CanHold s h was) (cond-false (length p == 0) (length was) (max (length was) (o + length p)) some) k.1

  -- a gap can be filled
  pub can_fill : (b : List ℕ) × CanHold s h b (max (length b) o) × (length b ≡ size)
  can_fill = (was, holds_less s h was (max (length was) (o + length p)) whole (max (length was) o) (omega arith), k.2)

  module _ (s1 : Server) (limits : s1.limits ≡ s.limits)
      (filled : (t : Tree) (b : List ℕ) → s.tree ≡ Some t → bytes_at t h ≡ Some b →
      s1.tree ≡ Some (edited t h (with_bytes (resized (max (length b) o))))) where
    -- then all of the piece can be put
    pub can_write : (b : List ℕ) × CanHold s1 h b (max (length b) (o + length p)) × (o ≤ length b)
    can_write =
        let long = length-resized (max (length was) o) was in (
          filled_up was,
          holds_edited s s1 h was (max (length was) (o + length p)) whole filled_up
              (filled whole.tree was whole.has_tree whole.has_bytes) limits
              (max (length (filled_up was)) (o + length p)) (omega (arith, long)),
          omega (arith, long),
        )

    -- and then it stands at the offset
    pub all_put : (s2 : Option Tree) →
        ((t : Tree) → s1.tree ≡ Some t → s2 ≡ Some (edited t h (with_bytes (overwritten o p)))) →
        (t : Tree) → s.tree ≡ Some t → s2 ≡ Some (edited t h (with_bytes (written o p)))
    all_put s2 put t is =
        let at = bytes_there s h was (max (length was) (o + length p)) whole t is in
        put (edited t h (with_bytes filled_up)) (filled t was is at)
        ∙ ap Some (bytes_twice t h was at filled_up (overwritten o p) (written o p)
        (overwritten_filled o p was ∙ sym (cond-false (length p == 0) was (overwritten o p was) some)))
