-- Results as formats of items (RFC 1094, 2.2 and 2.3).
use Rattle.std.specs.Prelude.{ℕ, zero, suc, ◌==◌, ◌||◌, if◌then◌else◌, List, [], ◌∷◌, ◌++◌}
use Rattle.xdr_core.specs.Items.{Item, word, boolean, fixed, any_word, any_opaque}
use Rattle.xdr_core.specs.Grammar.{Grammar, gives, item, and_then}
use Rattle.nfs2_types.specs.Sizes.{max_name, max_path, max_data}
use Rattle.nfs2_types.specs.declared.fattr.Fattr.{Fattr}
use Rattle.nfs2_types.specs.declared.results.ListEntry.{ListEntry}
use Rattle.nfs2_types.specs.declared.results.NfsResult.{NfsResult}
use Rattle.nfs2_types.specs.declared.results.NfsResult.TheVariants.{Nothing, Refused, Done, Attr, Node, Path, Content}
use Rattle.nfs2_types.specs.declared.results.NfsResult.TheVariants.{Entries, Space}

-- the seventeen words of the attributes, in their order (2.3.5)
unfoldable pub fattr_form : Grammar Fattr
fattr_form =
    item any_word λ ftype. item any_word λ mode. item any_word λ nlink. item any_word λ uid. item any_word λ gid.
    item any_word λ size. item any_word λ blocksize. item any_word λ rdev. item any_word λ blocks.
    item any_word λ fsid. item any_word λ fileid.
    item any_word λ asecs. item any_word λ amicros. item any_word λ msecs. item any_word λ mmicros.
    item any_word λ csecs. item any_word λ cmicros.
    gives (record {
      ftype = ftype;
      mode = mode;
      nlink = nlink;
      uid = uid;
      gid = gid;
      size = size;
      blocksize = blocksize;
      rdev = rdev;
      blocks = blocks;
      fsid = fsid;
      fileid = fileid;
      atime_secs = asecs;
      atime_micros = amicros;
      mtime_secs = msecs;
      mtime_micros = mmicros;
      ctime_secs = csecs;
      ctime_micros = cmicros;
    })

-- an entry, behind the word that announces it (2.2.17)
unfoldable pub entry_form : Grammar ListEntry
entry_form = item any_word λ fileid. item (any_opaque max_name) λ name. item any_word λ cookie.
    gives (record { fileid = fileid; name = name; cookie = cookie })

-- the word 0, which no more entries follow
abbrev pub last_word : Item
last_word = word (λ n. n == 0)

-- at most so many entries behind these: each has a true bool before it, and a false one ends the list
unfoldable pub entries_form : (limit : ℕ) (before : List ListEntry) → Grammar (List ListEntry)
entries_form zero before = item last_word λ none. gives before
entries_form (suc limit) before = item boolean λ more.
    if more then and_then entry_form (λ e. entries_form limit (before ++ e ∷ [])) else gives before

-- attrstat's arm
unfoldable pub attr_arm : Grammar NfsResult
attr_arm = and_then fattr_form λ a. gives (Attr a)

-- diropres's arm
unfoldable pub node_arm : Grammar NfsResult
node_arm = item (fixed 32) λ handle. and_then fattr_form λ a. gives (Node handle a)

-- READLINK's arm
unfoldable pub path_arm : Grammar NfsResult
path_arm = item (any_opaque max_path) λ text. gives (Path text)

-- READ's arm
unfoldable pub content_arm : Grammar NfsResult
content_arm = and_then fattr_form λ a. item (any_opaque max_data) λ bytes. gives (Content a bytes)

-- READDIR's arm
unfoldable pub entries_arm : ℕ → Grammar NfsResult
entries_arm limit = and_then (entries_form limit []) λ entries. item boolean λ eof. gives (Entries entries eof)

-- STATFS's arm
unfoldable pub space_arm : Grammar NfsResult
space_arm =
    item any_word λ tsize. item any_word λ bsize. item any_word λ blocks. item any_word λ bfree. item any_word λ bavail.
    gives (Space tsize bsize blocks bfree bavail)

-- what follows the status OK in the result of a procedure (2.2.2 to 2.2.18), with at most so many entries
abbrev pub arm_form : (limit proc : ℕ) → Grammar NfsResult
arm_form limit proc =
    if proc == 1 || proc == 2 || proc == 8 then attr_arm else
    if proc == 4 || proc == 9 || proc == 14 then node_arm else
    if proc == 5 then path_arm else
    if proc == 6 then content_arm else
    if proc == 16 then entries_arm limit else
    if proc == 17 then space_arm else gives Done

-- a status, and the arm where it is OK, which is 0
unfoldable pub status_form : Grammar NfsResult → Grammar NfsResult
status_form arm = item any_word λ status. if status == 0 then arm else gives (Refused (record { 0 = status }))

-- the result of a procedure; NULL, ROOT and WRITECACHE have none
abbrev pub result_form : (limit proc : ℕ) → Grammar NfsResult
result_form limit proc =
    if proc == 0 || proc == 3 || proc == 7 then gives Nothing else status_form (arm_form limit proc)

-- the procedures whose results have the shape of this one
abbrev pub procedures : NfsResult → List ℕ
procedures Nothing = 0 ∷ 3 ∷ 7 ∷ []
procedures (Refused stat) = 1 ∷ 2 ∷ 4 ∷ 5 ∷ 6 ∷ 8 ∷ 9 ∷ 10 ∷ 11 ∷ 12 ∷ 13 ∷ 14 ∷ 15 ∷ 16 ∷ 17 ∷ []
procedures Done = 10 ∷ 11 ∷ 12 ∷ 13 ∷ 15 ∷ []
procedures (Attr a) = 1 ∷ 2 ∷ 8 ∷ []
procedures (Node handle a) = 4 ∷ 9 ∷ 14 ∷ []
procedures (Path text) = 5 ∷ []
procedures (Content a bytes) = 6 ∷ []
procedures (Entries entries eof) = 16 ∷ []
procedures (Space tsize bsize blocks bfree bavail) = 17 ∷ []
