-- Formats of which the bytes at hand may be cut: what begins them, and how many bytes a value that begins so
-- needs.
use Rattle.std.specs.Prelude.{◌≡◌, ◌%◌, ℕ, ◌+◌, ◌<◌, ◌≤◌, IsOk, List, ◌++◌, length, drop, map, Option, Some, None, Result, Ok, Err, IfOk, IsOkAnd, IsErr}
use Rattle.xdr_core.specs.declared.error.XdrKind.{XdrKind}
use Rattle.xdr_core.specs.Items.{Item, Value, item_in}
use Rattle.xdr_core.specs.Grammar.{Cursor, Stop, skip, Grammar, Spells, reads, ◌>>=◌}
use Rattle.xdr_core.specs.Grammar as grammar
use Rattle.xdr_cut.specs.declared.error.CutErr.{CutErr}
use Rattle.xdr_cut.specs.declared.error.CutErr.TheVariants.{Short, Wrong}
use Rattle.xdr_cut.specs.declared.error.ScanErr.{ScanErr}
use Rattle.xdr_cut.specs.declared.error.ScanErr.TheVariants as errors

-- ---- what the bytes begin

-- the bytes are a proper prefix of a spelling, and `need` is the least length of a spelling that begins so
pub record IsShort {A : Type 0} (g : Grammar A) (bytes : List ℕ) (need : ℕ) : Type 0 where
  pub proper : length bytes < need
  pub attained : (value : A) × (more : List ℕ) × Spells g value (bytes ++ more)
      × (length (bytes ++ more) ≡ need)
  pub least : (value : A) (more : List ℕ) → Spells g value (bytes ++ more) → need ≤ length (bytes ++ more)

-- no spelling begins the bytes, and they begin none
pub record IsNoStart {A : Type 0} (g : Grammar A) (bytes : List ℕ) : Type 0 where
  pub none_before : (value : A) (text more : List ℕ) → Spells g value text → bytes ≡ text ++ more → ⊥
  pub none_behind : (value : A) (more : List ℕ) → Spells g value (bytes ++ more) → ⊥

-- a value is spelled at the front of the bytes, by so many of them
abbrev pub Begins : {A : Type 0} → Grammar A → List ℕ → A → ℕ → Type 0
Begins g bytes value n =
    (text more : List ℕ) × Spells g value text × (bytes ≡ text ++ more) × (n ≡ length text)

-- the value that is read, and the bytes behind it
abbrev pub value_and_rest : {A : Type 0} → List ℕ → Result (A × Cursor) Stop → Option (A × List ℕ)
value_and_rest bytes (Ok x) = Some (x.0, drop x.1.at bytes)
value_and_rest bytes (Err stop) = None

-- The value at the front of the bytes, and the bytes behind it. A number that is no byte counts as its low
-- byte.
unfoldable pub front_at : {A : Type 0} → Grammar A → List ℕ → Option (A × List ℕ)
front_at g bytes =
    value_and_rest bytes (reads g (record { at = 0; rest = map (λ b. b % 256) bytes }))

-- ---- formats with, at each item, what bytes that are no whole item need

-- at least so many bytes in all, or the bytes begin no value
abbrev pub Means : {A : Type 0} → Grammar A → List ℕ → Option ℕ → Type 0
Means g bytes (Some need) = IsShort g bytes need
Means g bytes None = IsNoStart g bytes

-- a format, and at each item what the bytes that are left need where they are no whole item
pub data Plan (A : Type 0) : Type 0 where
  gives : (value : A) → Plan A
  item : (i : Item) (need : List ℕ → Option ℕ) (next : Value i → Plan A) → Plan A

-- the format alone
abbrev pub plain : {A : Type 0} → Plan A → Grammar A
plain (gives a) = grammar.gives a
plain (item i need next) = grammar.item i (λ x. plain (next x))

-- what is needed from the start, behind so many bytes
abbrev pub cut_err : ℕ → Option ℕ → CutErr
cut_err at (Some n) = Short (at + n)
cut_err at None = Wrong

-- an item that was found, as the cursor behind it; else what it needs
abbrev pub scanned : {V : Type 0} → Cursor → Option ℕ → Result (V × ℕ) (Option XdrKind)
    → Result (V × Cursor) CutErr
scanned c need (Ok x) = Ok (x.0, skip x.1 c)
scanned c need (Err why) = Err (cut_err c.at need)

-- the item that is found here
unfoldable pub scan_item : (i : Item) → (List ℕ → Option ℕ) → Cursor → Result (Value i × Cursor) CutErr
scan_item i need c = scanned c (need c.rest) (item_in i c.rest)

-- the items from left to right, up to the first that is cut or wrong
abbrev pub scans : {A : Type 0} → Plan A → Cursor → Result (A × Cursor) CutErr
scans (gives a) c = Ok (a, c)
scans (item i need next) c = scan_item i need c >>= λ x. scans (next x.0) x.1

-- ---- what functions return

-- what a function returned, seen by view, and the reader after it, are what scanning gives
abbrev pub Scans : {X Y : Type 0} → (X → Y) → Result X CutErr → Cursor → Result (Y × Cursor) CutErr → Type 0
Scans view (Ok x) after scan = scan ≡ Ok (view x, after)
Scans view (Err e) after scan = scan ≡ Err e

-- an error of a function that takes no memory
abbrev pub scan_err : CutErr → ScanErr
scan_err (Short need) = errors.Short need
scan_err Wrong = errors.Wrong

-- the error that scanning gives; memory wants only behind a whole value
abbrev pub Stops : {Y : Type 0} → ScanErr → Result Y CutErr → Type 0
Stops (errors.Short need) scan = scan ≡ Err (Short need)
Stops errors.Wrong scan = scan ≡ Err Wrong
Stops errors.NoMemory scan = IsOk scan

-- the same as Scans of a function that may want memory
abbrev pub ScansAt : {X Y : Type 0} → (X → Y) → Result X ScanErr → Cursor → Result (Y × Cursor) CutErr → Type 0
ScansAt view (Ok x) after scan = scan ≡ Ok (view x, after)
ScansAt view (Err e) after scan = Stops e scan

-- the same of a function that tells the value and how many bytes it takes
abbrev pub ScansFront : {X Y : Type 0} → (X → Y × ℕ) → Result X ScanErr → Result (Y × Cursor) CutErr → Type 0
ScansFront view (Ok x) scan = IsOkAnd scan (λ y. (y.0 ≡ (view x).0) × (y.1.at ≡ (view x).1))
ScansFront view (Err e) scan = Stops e scan

-- the same of a function that tells only whether there is a value
abbrev pub ScansWhole : {Y : Type 0} → Option Y → Result (Y × Cursor) CutErr → Type 0
ScansWhole (Some y) scan = IsOkAnd scan (λ x. x.0 ≡ y)
ScansWhole None scan = IsErr scan

-- such a value, unless memory wanted
abbrev pub IsOkOrNoMemory : {X : Type 0} → Result X ScanErr → (X → Type 0) → Type 0
IsOkOrNoMemory (Ok x) p = p x
IsOkOrNoMemory (Err errors.NoMemory) p = Unit {0}
IsOkOrNoMemory (Err (errors.Short need)) p = ⊥
IsOkOrNoMemory (Err errors.Wrong) p = ⊥

-- exactly the value whose spelling begins the bytes; else what they need; else that no value begins so
pub record IsScan {X Y : Type 0} (view : X → Y × ℕ) (g : Grammar Y) (bytes : List ℕ) (result : Result X ScanErr)
    : Type 0 where
  pub found : IfOk result (λ x. Begins g bytes (view x).0 (view x).1)
  pub only : (value : Y) (n : ℕ) → Begins g bytes value n
      → IsOkOrNoMemory result (λ x. ((view x).0 ≡ value) × ((view x).1 ≡ n))
  pub short : (need : ℕ) → result ≡ Err (errors.Short need) → IsShort g bytes need
  pub wrong : result ≡ Err errors.Wrong → IsNoStart g bytes
  pub memory : result ≡ Err errors.NoMemory → (value : Y) × (n : ℕ) × Begins g bytes value n
