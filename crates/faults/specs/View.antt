-- A fault as the definitions have it.
use Rattle.std.specs.Prelude.{Option, Some, None, [], ◌∷◌, ◌++◌, string_bytes, decimal}
use Rattle.definitions.specs.Bytes.{space}
use Rattle.definitions.specs.Values.{Text}
use Rattle.definitions.specs.Faults as meaning
use Rattle.faults.specs.declared.Fault.{Fault}
use Rattle.faults.specs.declared.Fault.TheVariants.{BadJson, BadNumber, BadPointer, BadFragment, BadPattern, NotObject, TooNested, BadKeyword, BadId, BadAnchor, Dialect, DuplicateUri, DuplicateAnchor, NotFound, Unresolved, Costly, Loop, Deep, BundleClash, BundleTooLarge, BadCapacity, DuplicateTenant, TooManyTenants, UnknownTenant, BadUri, TooLarge, Taken, QuotaDocuments, QuotaBytes, NoRoom, IdInUse, NoSession, LibraryOwned, BadTenants, BadRoute, BadRequest, ReadFailed, WriteFailed, ReadBound, BadInput, BadBatch, SameDocument}

abbrev pub fault_view : Fault → meaning.Fault
fault_view BadJson = meaning.bad_json
fault_view BadNumber = meaning.bad_number
fault_view BadPointer = meaning.bad_pointer
fault_view BadFragment = meaning.bad_fragment
fault_view BadPattern = meaning.bad_pattern
fault_view NotObject = meaning.not_object
fault_view TooNested = meaning.too_nested
fault_view (BadKeyword at) = meaning.bad_keyword (string_bytes at)
fault_view BadId = meaning.bad_id
fault_view BadAnchor = meaning.bad_anchor
fault_view Dialect = meaning.dialect
fault_view DuplicateUri = meaning.duplicate_uri
fault_view DuplicateAnchor = meaning.duplicate_anchor
fault_view NotFound = meaning.not_found
fault_view (Unresolved at) = meaning.unresolved (string_bytes at)
fault_view Costly = meaning.costly
fault_view Loop = meaning.loop
fault_view Deep = meaning.deep
fault_view (BundleClash at) = meaning.bundle_clash (string_bytes at)
fault_view BundleTooLarge = meaning.bundle_too_large
fault_view BadCapacity = meaning.bad_capacity
fault_view DuplicateTenant = meaning.duplicate_tenant
fault_view TooManyTenants = meaning.too_many_tenants
fault_view UnknownTenant = meaning.unknown_tenant
fault_view BadUri = meaning.bad_uri
fault_view TooLarge = meaning.too_large
fault_view (Taken at) = meaning.taken (string_bytes at)
fault_view QuotaDocuments = meaning.quota_documents
fault_view QuotaBytes = meaning.quota_bytes
fault_view NoRoom = meaning.no_room
fault_view IdInUse = meaning.id_in_use
fault_view NoSession = meaning.no_session
fault_view LibraryOwned = meaning.library_owned
fault_view BadTenants = meaning.bad_tenants
fault_view BadRoute = meaning.bad_route
fault_view BadRequest = meaning.bad_request
fault_view ReadFailed = meaning.read_failed
fault_view WriteFailed = meaning.write_failed
fault_view ReadBound = meaning.read_bound
fault_view BadInput = meaning.bad_input
fault_view BadBatch = meaning.bad_batch
fault_view (SameDocument at) = meaning.same_document (string_bytes at)

-- the text that the fault carries, after a space
abbrev pub suffix : Option Text → Text
suffix (Some at) = space ∷ at
suffix None = []

-- what `{}` prints
abbrev pub printed_text : meaning.Fault → Text
printed_text f = decimal (meaning.number_of f) ++ space ∷ meaning.name_of f ++ suffix (meaning.carried_text f)
