use Rattle.std.proofs.Common.{true, false, ◌≡◌, ◌∙◌, bytes_eq, take, sym, ap}
use Rattle.std.specs.Prelude.{replicate}
use Rattle.std.proofs.lemmas.List.{take_at}
use Rattle.std.proofs.lemmas.Slice.Eq.{bytes_eq-Decides}
use Rattle.log_tree.specs.Held.{handle_of}
use Rattle.log_calls.proofs.found.id_of.Goals as goal

pub returns-else-eq : goal.returns-else-eq
returns-else-eq c = λ id long e.
    let front : c.copy_from_slice.new.self ≡ id =
    c.copy_from_slice.ensures.after ∙ (ap (take 8) e ∙ take_at id (replicate 24 0) 8 long) in
    let same : c.handle_of.result ≡ c.args.handle.now = c.handle_of.ensures ∙ (ap handle_of front ∙ sym e) in
    let yes : bytes_eq c.handle_of.result c.args.handle.now ≡ true =
    (bytes_eq-Decides c.handle_of.result c.args.handle.now).1 same in
    let no_more : bytes_eq c.handle_of.result c.args.handle.now ≡ false = sym c.if-eq.ensures in
    absurd (let bad : true ≡ false = sym yes ∙ no_more in cc)
