-- What a call may answer in place of a result: each fault with its number, its name, its status and the text that it carries.
use Rattle.std.specs.Prelude.{ℕ, Option, Some, None, codes}
use Rattle.definitions.specs.Values.{Text}

pub data Fault : Type 0 where
  bad_json : Fault
  bad_number : Fault
  bad_pointer : Fault
  bad_fragment : Fault
  bad_pattern : Fault
  not_object : Fault
  too_nested : Fault
  -- at the keyword's pointer
  bad_keyword : Text → Fault
  bad_id : Fault
  bad_anchor : Fault
  dialect : Fault
  duplicate_uri : Fault
  duplicate_anchor : Fault
  not_found : Fault
  -- at the reference
  unresolved : Text → Fault
  costly : Fault
  loop : Fault
  deep : Fault
  -- at the URI
  bundle_clash : Text → Fault
  bundle_too_large : Fault
  bad_capacity : Fault
  duplicate_tenant : Fault
  too_many_tenants : Fault
  unknown_tenant : Fault
  bad_uri : Fault
  too_large : Fault
  -- at the URI
  taken : Text → Fault
  quota_documents : Fault
  quota_bytes : Fault
  no_room : Fault
  id_in_use : Fault
  no_session : Fault
  library_owned : Fault
  bad_tenants : Fault
  bad_route : Fault
  bad_request : Fault
  read_failed : Fault
  write_failed : Fault
  read_bound : Fault
  bad_input : Fault
  bad_batch : Fault
  -- at the URI
  same_document : Text → Fault

-- the number, the name and the status where a request may be refused so over HTTP (RFC 9110, section 15); 33 is no
-- fault's number
abbrev pub row_of : Fault → ℕ × Text × Option ℕ
row_of bad_json = (1, codes "BadJson", Some 400)
row_of bad_number = (2, codes "BadNumber", Some 400)
row_of bad_pointer = (3, codes "BadPointer", None)
row_of bad_fragment = (4, codes "BadFragment", None)
row_of bad_pattern = (5, codes "BadPattern", Some 400)
row_of not_object = (6, codes "NotObject", Some 400)
row_of too_nested = (7, codes "TooNested", Some 400)
row_of (bad_keyword at) = (8, codes "BadKeyword", Some 400)
row_of bad_id = (9, codes "BadId", Some 400)
row_of bad_anchor = (10, codes "BadAnchor", Some 400)
row_of dialect = (11, codes "Dialect", Some 400)
row_of duplicate_uri = (12, codes "DuplicateUri", Some 400)
row_of duplicate_anchor = (13, codes "DuplicateAnchor", Some 400)
row_of not_found = (14, codes "NotFound", Some 404)
row_of (unresolved at) = (15, codes "Unresolved", Some 409)
row_of costly = (16, codes "Costly", Some 400)
row_of loop = (17, codes "Loop", Some 400)
row_of deep = (18, codes "Deep", Some 400)
row_of (bundle_clash at) = (19, codes "BundleClash", Some 409)
row_of bundle_too_large = (20, codes "BundleTooLarge", Some 400)
row_of bad_capacity = (21, codes "BadCapacity", None)
row_of duplicate_tenant = (22, codes "DuplicateTenant", None)
row_of too_many_tenants = (23, codes "TooManyTenants", None)
row_of unknown_tenant = (24, codes "UnknownTenant", Some 403)
row_of bad_uri = (25, codes "BadUri", Some 400)
row_of too_large = (26, codes "TooLarge", None)
row_of (taken at) = (27, codes "Taken", Some 409)
row_of quota_documents = (28, codes "QuotaDocuments", Some 403)
row_of quota_bytes = (29, codes "QuotaBytes", Some 403)
row_of no_room = (30, codes "NoRoom", Some 503)
row_of id_in_use = (31, codes "IdInUse", None)
row_of no_session = (32, codes "NoSession", None)
row_of library_owned = (34, codes "LibraryOwned", Some 409)
row_of bad_tenants = (35, codes "BadTenants", None)
row_of bad_route = (36, codes "BadRoute", Some 404)
row_of bad_request = (37, codes "BadRequest", Some 400)
row_of read_failed = (38, codes "ReadFailed", None)
row_of write_failed = (39, codes "WriteFailed", None)
row_of read_bound = (40, codes "ReadBound", None)
row_of bad_input = (41, codes "BadInput", None)
row_of bad_batch = (42, codes "BadBatch", Some 400)
row_of (same_document at) = (43, codes "SameDocument", Some 409)

abbrev pub number_of : Fault → ℕ
number_of f = (row_of f).0

abbrev pub name_of : Fault → Text
name_of f = (row_of f).1

abbrev pub status_of : Fault → Option ℕ
status_of f = (row_of f).2

-- the text that it carries
abbrev pub carried_text : Fault → Option Text
carried_text (bad_keyword at) = Some at
carried_text (unresolved at) = Some at
carried_text (bundle_clash at) = Some at
carried_text (taken at) = Some at
carried_text (same_document at) = Some at
carried_text _ = None
