-- The abstract service as a cluster sees it: what other crates define, here as the fields of one record.
use Rattle.std.specs.Prelude.{ℕ, zero, suc, Bool, true, false, List, slice_get, Option, Some, None, bytes_eq}
use Rattle.nfs2_types.specs.declared.Time.{Time}
use Rattle.nfs2_types.specs.declared.Word.{Word}
use Rattle.nfs2_types.specs.declared.Word.TheVariants.{Silent, Reply}
use Rattle.abs_model.specs.declared.Entry.{Entry}
use Rattle.cluster_model.specs.declared.request.Request.{Request}

-- the request of these bytes at this time
abbrev pub request : Time → List ℕ → Request
request time bytes = record { time = time; bytes = bytes }

-- the limits, and the words of the crates below
pub record Service : Type 1 where
  pub f : ℕ
  pub k : ℕ
  pub empty : List Entry
  -- the array, the word and the indexes told, of one request on an array
  pub next : List Entry → Request → List Entry
  pub word : List Entry → Request → Word
  pub told : List Entry → Request → List ℕ
  -- the indexes whose texts are saved when these are told: these at least
  pub saving : List Entry → List ℕ → List ℕ
  pub text : ℕ → Entry → List ℕ
  pub digest : List ℕ → List ℕ
  -- the levels of nodes, and the text of a node of these sixteen digests
  pub levels : ℕ
  pub node : ℕ → ℕ → List (List ℕ) → List ℕ
  -- the digests that stand in the text of a node
  pub parts : List ℕ → List (List ℕ)
  -- the requests that a log may hold, and the arrays that may come about: valid, and of numbers that their
  -- texts can spell
  pub fits : Request → Type 0
  pub good : List Entry → Type 0
  -- the array after a write past the procedures, where the bytes lie in a live file
  pub scratched : List Entry → ℕ → ℕ → List ℕ → Option (List Entry)

-- two words are equal
abbrev pub same_word : Word → Word → Bool
same_word Silent Silent = true
same_word (Reply a) (Reply b) = bytes_eq a b
same_word Silent (Reply b) = false
same_word (Reply a) Silent = false

-- the array after a request, if there is one
abbrev pub after : Service → List Entry → Option Request → List Entry
after S a None = a
after S a (Some r) = S.next a r

-- the array at a place: that after so many requests
abbrev pub array_at : Service → List Request → ℕ → List Entry
array_at S q zero = S.empty
array_at S q (suc p) = after S (array_at S q p) (slice_get q p)

-- the word of a request on an array, if there is one
abbrev pub word_of : Service → List Entry → Option Request → Word
word_of S a None = Silent
word_of S a (Some r) = S.word a r

-- the word at a place, the first place being 1
abbrev pub said_at : Service → List Request → ℕ → Word
said_at S q zero = Silent
said_at S q (suc p) = word_of S (array_at S q p) (slice_get q p)
