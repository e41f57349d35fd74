-- The changes are the entries that were got, in rising order.
use Rattle.std.proofs.Common.{◌≡◌, ◌⊎◌, inl, inr, ℕ, zero, suc, ◌+◌, ◌-◌, ◌*◌, ◌^◌, ◌<◌, ◌≤◌, Bool, true, false, cond, List, [], ◌∷◌, ◌++◌, length, map, All, refl, sym, ap, subst, ◌∙◌, arith, append_assoc}
use Rattle.std.specs.Prelude.{not, bytes_eq, filter, zip, ◌==◌}
use Rattle.std.proofs.lemmas.Bool.{eqb-true}
use Rattle.std.proofs.lemmas.List.{append-nil, map-append}
use Rattle.xdr_core.specs.Grammar.{Spells}
use Rattle.abs_model.specs.declared.Change.{Change}
use Rattle.abs_model.specs.declared.Entry.{Entry}
use Rattle.abs_text.specs.Text.{entry_text, node_parts}
use Rattle.abs_text.specs.Forms.{entry_form}
use Rattle.abs_text.proofs.Spelled.{text_is}
use Rattle.cluster_model.specs.Tree.{Item, item}
use Rattle.state_transfer.specs.Fetch.{Fetch, Takes, Adds, change}
use Rattle.state_transfer.specs.Got.{HasGot, entries_got, change_texts}
use Rattle.state_transfer.proofs.Walks.{Gots}

-- one text more

no_entry : (l : ℕ) → (suc l == 0) ≡ false
no_entry l = go (suc l == 0) refl
  where
    go : (b : Bool) → (suc l == 0) ≡ b → (suc l == 0) ≡ false
    go true e = absurd (let z : suc l ≡ 0 = eqb-true (suc l) 0 e in omega (arith, z))
    go false e = e

entry_added : (l k : ℕ) (t : List ℕ) (old new : List Change) → Adds l k t old new →
    change_texts new ≡ change_texts old ++ cond (l == 0) ((item l k, t) ∷ []) []
entry_added zero k t old new a =
    let text : t ≡ entry_text k a.0 = text_is k a.0 t a.1 in
    ap change_texts a.2 ∙ map-append (λ (c : Change). (item 0 c.index, entry_text c.index c.entry)) old (change k a.0 ∷ [])
    ∙ ap (λ (u : List ℕ). change_texts old ++ (item 0 k, u) ∷ []) (sym text)
entry_added (suc l) k t old new a =
    ap change_texts a ∙ sym (append-nil (change_texts old))
    ∙ ap (λ (b : Bool). change_texts old ++ cond b ((item (suc l) k, t) ∷ []) []) (sym (no_entry l))

pub texts_gathered : (f : Fetch) (got : Gots) (end : Fetch) → HasGot f got end →
    change_texts end.changes ≡ change_texts f.changes ++ entries_got got
texts_gathered f [] end h = ap (λ (f : Fetch). change_texts f.changes) h ∙ sym (append-nil (change_texts f.changes))
texts_gathered f (g ∷ got) end h =
    let x = h.0 in
    let l = f.stand.level in
    let here : (item l x.0, g.1) ≡ g = ap (λ (i : Item). (i, g.1)) (sym h.4) in
    let one : cond (l == 0) ((item l x.0, g.1) ∷ []) [] ++ entries_got got ≡ entries_got (g ∷ got)
    = split (l == 0) (item l x.0, g.1) ∙ ap (λ (y : Item × List ℕ). entries_got (y ∷ got)) here in
    texts_gathered h.2 got end h.6
    ∙ ap (λ cs. cs ++ entries_got got) (entry_added l x.0 g.1 f.changes h.2.changes h.5.changes)
    ∙ append_assoc (change_texts f.changes) (cond (l == 0) ((item l x.0, g.1) ∷ []) []) (entries_got got)
    ∙ ap (λ cs. change_texts f.changes ++ cs) one
  where
    split : (b : Bool) (y : Item × List ℕ) →
        cond b (y ∷ []) [] ++ entries_got got ≡ cond b (y ∷ entries_got got) (entries_got got)
    split true y = refl
    split false y = refl
