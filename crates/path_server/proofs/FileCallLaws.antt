-- What the calls on files and links answer, over plain values.
use Rattle.std.proofs.Common.{◌≡◌, ◌≢◌, inr, ℕ, ◌+◌, ◌-◌, ◌<◌, ◌≤◌, Bool, true, List, [], length, take, drop, Option, Some, Ok, Err, IsSomeAnd, refl, sym, ap, ◌∙◌, arith}
use Rattle.std.specs.Prelude.{max, Vec}
use Rattle.std.specs.Option.{option_map}
use Rattle.std.specs.declared.alloc.Global.{Global}
use Rattle.std.specs.FinMap.{get}
use Rattle.nfs2_types.specs.Bytes.{resized, overwritten}
use Rattle.nfs2_types.specs.declared.fattr.Kind.TheVariants.{File, Link}
use Rattle.server_trait.specs.Tree.{Tree, Server, bytes_in, text_in, bytes_at, text_at, edited, with_bytes}
use Rattle.server_trait.specs.Step.{OnlySoft, IsNo, NoRoom}
use Rattle.server_trait.specs.Calls.{Read, ReadLink, Write, SetSize, Wrote, ContentErr, WriteErr, SetSizeErr}
use Rattle.server_trait.specs.declared.server.SrvErr.{SrvErr}
use Rattle.server_trait.specs.declared.server.SrvErr.TheVariants.{Full}
use Rattle.server_trait.specs.declared.server.ServerLimits.{ServerLimits}
use Rattle.server_trait.proofs.TreeLaws.{is_some_and}
use Rattle.server_trait.proofs.SoftLaws.{read_soft, read_link_soft, write_soft, set_size_soft}
use Rattle.path_server.specs.Bytes.{bytes_under, rewritten}
use Rattle.path_server.specs.Kept.{Kept, IsFound, the_tree, tree_of}
use Rattle.path_server.specs.Sound.{IsSound}
use Rattle.path_server.specs.declared.node.PathNode.{PathNode}
use Rattle.path_server.proofs.ByteLaws.{overwritten_is}
use Rattle.path_server.proofs.CallLaws.{held_tree, found_error, no_view, stays, told_stale}
use Rattle.path_server.proofs.ContentLaws.{no_bytes, no_text}
use Rattle.path_server.proofs.FileLaws.{same_change}
use Rattle.path_server.proofs.SoundLaws.{bytes_at-is, text_at-is}

module _ (held : Bool) (limits : ServerLimits) (next bytes : ℕ) (k : Kept) (sound : held ≡ true →
    IsSound limits next bytes k) (h : List ℕ) where
  abbrev now : Tree
  now = the_tree k

  abbrev the_server : Server
  the_server = record { tree = tree_of held k; limits = limits; faults = 0 }

  there_is : held ≡ true → tree_of held k ≡ Some now
  there_is = stays held limits next bytes k sound

  -- ERRORS

  told_no_file : IsSomeAnd (get k.nodes h) (λ p. p.kind ≢ File) → (t : Tree) → tree_of held k ≡ Some t →
      IsNo bytes_in t h × (tree_of held k ≡ Some t)
  told_no_file other = held_tree held now (λ t. IsNo bytes_in t h × (tree_of held k ≡ Some t)) (λ there. (
    no_view
        bytes_in File k h no_bytes other,
    there_is there,
  ))

  told_no_link : IsSomeAnd (get k.nodes h) (λ p. p.kind ≢ Link) → (t : Tree) → tree_of held k ≡ Some t →
      IsNo text_in t h × (tree_of held k ≡ Some t)
  told_no_link other = held_tree held now (λ t. IsNo text_in t h × (tree_of held k ≡ Some t)) (λ there. (
    no_view
        text_in Link k h no_text other,
    there_is there,
  ))

  pub read-err : (offset count : ℕ) (e : SrvErr) → IsFound k.nodes h File (Err e) →
      Read the_server h offset count (Err e) the_server
  read-err offset count e found = found_error k.nodes h File e found
      (λ e. Read the_server h offset count (Err e) the_server)
      (λ is. record { tree = told_stale held limits next bytes k sound h is; limits = refl; faults = refl })
      (λ is. record { tree = told_no_file is; limits = refl; faults = refl })

  pub read_link-err : (e : SrvErr) → IsFound k.nodes h Link (Err e) → ReadLink the_server h (Err e) the_server
  read_link-err e found = found_error k.nodes h Link e found (λ e. ReadLink the_server h (Err e) the_server)
      (λ is. record { tree = told_stale held limits next bytes k sound h is; limits = refl; faults = refl })
      (λ is. record { tree = told_no_link is; limits = refl; faults = refl })

  pub write-err : (offset : ℕ) (piece : List ℕ) (e : SrvErr) → IsFound k.nodes h File (Err e) →
      Write the_server h offset piece (Err e) the_server
  write-err offset piece e found = found_error k.nodes h File e found (λ e. Write the_server h offset piece (Err e)
      the_server)
      (λ is. record { tree = told_stale held limits next bytes k sound h is; limits = refl; faults = refl })
      (λ is. record { tree = told_no_file is; limits = refl; faults = refl })

  pub set_size-err : (size : ℕ) (e : SrvErr) → IsFound k.nodes h File (Err e) →
      SetSize the_server h size (Err e) the_server
  set_size-err size e found = found_error k.nodes h File e found (λ e. SetSize the_server h size (Err e) the_server)
      (λ is. record { tree = told_stale held limits next bytes k sound h is; limits = refl; faults = refl })
      (λ is. record { tree = told_no_file is; limits = refl; faults = refl })

  -- READING

  module _ (p : PathNode) (v : Vec ℕ Global) where
    pub read-ok : (offset count : ℕ) → (get k.nodes h ≡ Some p) × (p.kind ≡ File) →
        v.items ≡ take count (drop offset (bytes_under k.contents h)) →
        Read the_server h offset count (Ok v) the_server
    read-ok offset count is told = record {
      tree = held_tree held now (λ t. ((option_map (λ b. take count (drop offset b)) (bytes_at t h) ≡ Some v.items) ×
          (tree_of held k ≡ Some t)) × OnlySoft (ContentErr bytes_in h t)) (λ there.
          let at = bytes_at-is limits next bytes k (sound there) h p is.0 is.1 in (
            (
              ap (option_map (λ b. take count (drop offset b))) at
                  ∙ ap Some (sym told),
              there_is there,
            ),
            read_soft now h (bytes_under k.contents h) at,
          ));
      limits = refl;
      faults = refl;
    }

    pub read_link-ok : (get k.nodes h ≡ Some p) × (p.kind ≡ Link) → v.items ≡ bytes_under k.contents h →
        ReadLink the_server h (Ok v) the_server
    read_link-ok is told = record {
      tree = held_tree held now (λ t. ((text_at t h ≡ Some v.items) × (tree_of held k ≡ Some t)) × OnlySoft
          (ContentErr text_in h t)) (λ there.
          let at = text_at-is limits next bytes k (sound there) h p is.0 is.1 in
          ((at ∙ ap Some (sym told), there_is there), read_link_soft now h (bytes_under k.contents h) at));
      limits = refl;
      faults = refl;
    }

  -- WRITING

  module _ (p : PathNode) (is : (get k.nodes h ≡ Some p) × (p.kind ≡ File)) where
    no_room : (size : ℕ) → held ≡ true → limits.bytes < (bytes - length (bytes_under k.contents h)) + size →
        NoRoom limits now 0 (length (bytes_under k.contents h)) size
    no_room size there over = inr (let all = (sound there).bytes_used in omega (arith, all, over))

    pub write-full : (offset : ℕ) (piece : List ℕ) → limits.bytes < (bytes - length (bytes_under k.contents h)) + max
        (length (bytes_under k.contents h)) (offset + length piece) →
        Write the_server h offset piece (Err Full) the_server
    write-full offset piece over = record {
      tree = held_tree held now (λ t. IsSomeAnd (bytes_at t h) (λ b. NoRoom limits t 0 (length b) (max (length b)
          (offset + length piece))) × (tree_of held k ≡ Some t)) (λ there. (
            is_some_and (λ b. NoRoom limits now 0 (length b) (max (length b) (offset + length piece))) (bytes_at-is
                limits next bytes k (sound there) h p is.0 is.1)
                (no_room (max (length (bytes_under k.contents h)) (offset + length piece)) there over),
            there_is there,
          ));
      limits = refl;
      faults = refl;
    }

    pub set_size-full : (size : ℕ) → limits.bytes < (bytes - length (bytes_under k.contents h)) + size →
        SetSize the_server h size (Err Full) the_server
    set_size-full size over = record {
      tree = held_tree held now (λ t. IsSomeAnd (bytes_at t h) (λ b. NoRoom limits t 0 (length b) size) × (tree_of
          held k ≡ Some t)) (λ there. (
            is_some_and (λ b. NoRoom limits now 0 (length b) size) (bytes_at-is limits next bytes k (sound there) h p
                is.0 is.1) (no_room size there over),
            there_is there,
          ));
      limits = refl;
      faults = refl;
    }

    -- with the tree that the call has made
    module _ (new : Option Tree) (limits' : ServerLimits) (same : limits' ≡ limits) where
      pub write-ok : (size offset : ℕ) (piece : List ℕ) → size ≡ max (length (bytes_under k.contents h)) (offset +
          length piece) → 1 ≤ length piece →
          new ≡ Some (edited now h (with_bytes (rewritten size offset piece))) →
          Write the_server h offset piece (Ok (length piece)) (record {
            tree = new;
            limits = limits';
            faults =
                0;
          })
      write-ok size offset piece is_size some made = record {
        tree = held_tree held now (λ t. Wrote t h offset piece (length piece) new × OnlySoft (WriteErr limits h
            offset (length piece) t)) (λ there. (
              record {
                some = some;
                most = omega arith;
                after = made ∙ ap Some (same_change k h p is.0 is.1 (rewritten size offset piece) (overwritten offset
                    (take (length piece) piece)) (overwritten_is size offset piece (bytes_under k.contents h) is_size));
              },
              write_soft limits now h (bytes_under k.contents h) offset (length piece) (bytes_at-is limits next bytes k
                  (sound there) h p is.0 is.1),
            ));
        limits = same;
        faults = refl;
      }

      pub set_size-ok : (size : ℕ) → new ≡ Some (edited now h (with_bytes (rewritten size 0 []))) →
          SetSize the_server h size (Ok tt) (record { tree = new; limits = limits'; faults = 0 })
      set_size-ok size made = record {
        tree = held_tree held now (λ t. (new ≡ Some (edited t h (with_bytes (resized size)))) × OnlySoft (SetSizeErr
            limits h size t)) (λ there. (
              made ∙ ap Some (same_change k h p is.0 is.1 (rewritten size 0 []) (resized size) refl),
              set_size_soft limits now h (bytes_under k.contents h) size
                  (bytes_at-is limits next bytes k (sound there) h
                  p is.0 is.1),
            ));
        limits = same;
        faults = refl;
      }
