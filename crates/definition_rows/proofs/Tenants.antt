-- Tenants: their file, what a new server is refused for, and replies by key.
use Rattle.std.proofs.Common.{◌≡◌, refl}
use Rattle.std.specs.Prelude.{[], ◌∷◌, codes, false, Some, None, Ok, Err}
use Rattle.std.specs.Fmt.{digits}
use Rattle.std.specs.Str.{is_utf8, chars}
use Rattle.serde_json.proofs.OnLiterals.{serde_json_on_literals}
use Rattle.definitions.specs.Faults.{bad_json, bad_number, bad_capacity, duplicate_tenant, too_many_tenants, bad_tenants, bad_batch}
use Rattle.definitions.specs.Outcomes.{object_outcome, outcome}
use Rattle.definitions.specs.Registries.{put, delete, validate, stored, validated}
use Rattle.definitions.specs.Tenants.{file_tenants, server_fault, new_server}
use Rattle.definition_rows.proofs.Asked.{tenant, numbered, called, called_with, was, gave}

-- ---- the file
one_tenant : file_tenants (codes "{\"tenants\":[{\"bytes\":1000000,\"documents\":100,\"key\":\"k1\"}]}") ≡ Ok (tenant (codes "k1") 100 1000000 ∷ [])
unfolding serde_json_on_literals digits is_utf8 chars
one_tenant = refl

no_tenant : file_tenants (codes "{\"tenants\":[]}") ≡ Ok []
unfolding serde_json_on_literals digits is_utf8 chars
no_tenant = refl

one_key_twice : file_tenants (codes "{\"tenants\":[{\"bytes\":1,\"documents\":2,\"key\":\"k1\"},{\"bytes\":3,\"documents\":4,\"key\":\"k1\",\"more\":null}]}") ≡ Ok (tenant (codes "k1") 2 1 ∷ tenant (codes "k1") 4 3 ∷ [])
unfolding serde_json_on_literals digits is_utf8 chars
one_key_twice = refl

most_quotas : file_tenants (codes "{\"tenants\":[{\"bytes\":18446744073709551615,\"documents\":4294967295,\"key\":\"\"}]}") ≡ Ok (tenant [] 4294967295 18446744073709551615 ∷ [])
unfolding serde_json_on_literals digits is_utf8 chars
most_quotas = refl

negative_bytes : file_tenants (codes "{\"tenants\":[{\"bytes\":-1,\"documents\":1,\"key\":\"k1\"}]}") ≡ Err bad_tenants
unfolding serde_json_on_literals digits is_utf8 chars
negative_bytes = refl

too_many_documents : file_tenants (codes "{\"tenants\":[{\"bytes\":1,\"documents\":4294967296,\"key\":\"k1\"}]}") ≡ Err bad_tenants
unfolding serde_json_on_literals digits is_utf8 chars
too_many_documents = refl

no_key : file_tenants (codes "{\"tenants\":[{\"bytes\":1,\"documents\":1}]}") ≡ Err bad_tenants
unfolding serde_json_on_literals digits is_utf8 chars
no_key = refl

no_object : file_tenants (codes "[]") ≡ Err bad_tenants
unfolding serde_json_on_literals digits is_utf8 chars
no_object = refl

no_list : file_tenants (codes "{\"tenants\":{}}") ≡ Err bad_tenants
unfolding serde_json_on_literals digits is_utf8 chars
no_list = refl

no_whole_number : file_tenants (codes "{\"tenants\":1.0}") ≡ Err bad_number
unfolding serde_json_on_literals digits is_utf8 chars
no_whole_number = refl

no_json : file_tenants (codes "{\"tenants\":") ≡ Err bad_json
unfolding serde_json_on_literals digits is_utf8 chars
no_json = refl

-- ---- a new server
capacity_before_number : server_fault (numbered 65) 0 ≡ Some bad_capacity
unfolding digits
capacity_before_number = refl

most_capacity : server_fault (numbered 1) 4096 ≡ None
unfolding digits
most_capacity = refl

over_most_capacity : server_fault (numbered 1) 4097 ≡ Some bad_capacity
unfolding digits
over_most_capacity = refl

too_many : server_fault (numbered 65) 256 ≡ Some too_many_tenants
unfolding digits
too_many = refl

number_before_keys : server_fault (tenant [] 1 1 ∷ numbered 64) 1 ≡ Some too_many_tenants
unfolding digits
number_before_keys = refl

keys_before_repeats : server_fault (tenant (codes "k1") 1 1 ∷ tenant (codes "k1") 1 1 ∷ tenant (codes "a b") 1 1 ∷ []) 1 ≡ Some bad_tenants
unfolding digits
keys_before_repeats = refl

repeated_key : server_fault (tenant (codes "k1") 1 1 ∷ tenant (codes "k1") 1 1 ∷ []) 1 ≡ Some duplicate_tenant
unfolding digits
repeated_key = refl

most_tenants : server_fault (numbered 64) 256 ≡ None
unfolding digits
most_tenants = refl

tenants_before_library : new_server (numbered 65) 1 (Err bad_batch) ≡ Err too_many_tenants
unfolding digits
tenants_before_library = refl

library_refused : new_server (numbered 2) 1 (Err bad_batch) ≡ Err bad_batch
unfolding digits
library_refused = refl

-- ---- each tenant has its own documents
alternating : called (codes "k1" ∷ codes "k2" ∷ []) (
    (codes "k1", put (codes "https://ex.org/s") (codes "{\"type\":\"string\"}"))
    ∷ (codes "k2", put (codes "https://ex.org/s") (codes "{\"type\":\"integer\"}"))
    ∷ (codes "k1", validate (codes "https://ex.org/s") (codes "5"))
    ∷ (codes "k2", validate (codes "https://ex.org/s") (codes "5"))
    ∷ (codes "k1", validate (codes "https://ex.org/s") (codes "5"))
    ∷ (codes "k2", validate (codes "https://ex.org/s") (codes "5"))
    ∷ (codes "k1", validate (codes "https://ex.org/s") (codes "5"))
    ∷ (codes "k2", validate (codes "https://ex.org/s") (codes "5"))
    ∷ (codes "k3", validate (codes "https://ex.org/s") (codes "5")) ∷ [])
    ≡ was (stored (codes "https://ex.org/s") false)
    ∷ was (stored (codes "https://ex.org/s") false)
    ∷ was (validated (codes "{\"errors\":[{\"absoluteKeywordLocation\":\"https://ex.org/s#/type\",\"error\":\"type is not met\",\"instanceLocation\":\"\",\"keywordLocation\":\"/type\"}],\"valid\":false}"))
    ∷ was (validated (codes "{\"annotations\":[],\"valid\":true}"))
    ∷ was (validated (codes "{\"errors\":[{\"absoluteKeywordLocation\":\"https://ex.org/s#/type\",\"error\":\"type is not met\",\"instanceLocation\":\"\",\"keywordLocation\":\"/type\"}],\"valid\":false}"))
    ∷ was (validated (codes "{\"annotations\":[],\"valid\":true}"))
    ∷ was (validated (codes "{\"errors\":[{\"absoluteKeywordLocation\":\"https://ex.org/s#/type\",\"error\":\"type is not met\",\"instanceLocation\":\"\",\"keywordLocation\":\"/type\"}],\"valid\":false}"))
    ∷ was (validated (codes "{\"annotations\":[],\"valid\":true}"))
    ∷ gave (codes "UnknownTenant") None ∷ []
unfolding serde_json_on_literals digits is_utf8 chars object_outcome outcome
alternating = refl

-- ---- and all have the library, which no quota counts
library_of_all : called_with (codes "{\"put\":[{\"schema\":{\"type\":\"integer\"},\"uri\":\"https://ex.org/lib\"},{\"schema\":{\"$ref\":\"own\"},\"uri\":\"https://ex.org/lib2\"}]}") (codes "k1" ∷ codes "k2" ∷ []) (
    (codes "k1", put (codes "https://ex.org/lib") (codes "{}"))
    ∷ (codes "k1", delete (codes "https://ex.org/lib"))
    ∷ (codes "k1", put (codes "https://ex.org/t") (codes "{\"$defs\":{\"e\":{\"$id\":\"lib\"}}}"))
    ∷ (codes "k2", validate (codes "https://ex.org/lib") (codes "5"))
    ∷ (codes "k1", put (codes "https://ex.org/s") (codes "{\"$ref\":\"lib\"}"))
    ∷ (codes "k1", put (codes "https://ex.org/own") (codes "{\"type\":\"string\"}"))
    ∷ (codes "k1", validate (codes "https://ex.org/s") (codes "\"x\""))
    ∷ (codes "k1", validate (codes "https://ex.org/lib2") (codes "5"))
    ∷ (codes "k2", validate (codes "https://ex.org/lib2") (codes "5")) ∷ [])
    ≡ gave (codes "LibraryOwned") None
    ∷ gave (codes "LibraryOwned") None
    ∷ gave (codes "Taken") (Some (codes "https://ex.org/lib"))
    ∷ was (validated (codes "{\"annotations\":[],\"valid\":true}"))
    ∷ was (stored (codes "https://ex.org/s") false)
    ∷ was (stored (codes "https://ex.org/own") false)
    ∷ was (validated (codes "{\"errors\":[{\"absoluteKeywordLocation\":\"https://ex.org/s#/$ref\",\"error\":\"$ref is not met\",\"instanceLocation\":\"\",\"keywordLocation\":\"/$ref\"},{\"absoluteKeywordLocation\":\"https://ex.org/lib#/type\",\"error\":\"type is not met\",\"instanceLocation\":\"\",\"keywordLocation\":\"/$ref/type\"}],\"valid\":false}"))
    ∷ was (validated (codes "{\"errors\":[{\"absoluteKeywordLocation\":\"https://ex.org/lib2#/$ref\",\"error\":\"$ref is not met\",\"instanceLocation\":\"\",\"keywordLocation\":\"/$ref\"},{\"absoluteKeywordLocation\":\"https://ex.org/own#/type\",\"error\":\"type is not met\",\"instanceLocation\":\"\",\"keywordLocation\":\"/$ref/type\"}],\"valid\":false}"))
    ∷ gave (codes "Unresolved") (Some (codes "https://ex.org/own")) ∷ []
unfolding serde_json_on_literals digits is_utf8 chars object_outcome outcome
library_of_all = refl
