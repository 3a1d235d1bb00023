-- All limits of this profile.
use Rattle.std.specs.Prelude.{ℕ}

pub record Limits : Type 0 where
  -- of a schema document, and of a bundle
  pub schema_nesting : ℕ
  pub bundle_nesting : ℕ
  -- of the body of a request, and of a bundle's text
  pub body_bytes : ℕ
  pub bundle_bytes : ℕ
  -- of a batch
  pub entries : ℕ
  -- how many applications may nest, and how many there may be in one validation
  pub nested_applications : ℕ
  pub applications : ℕ
  -- of a server: its tenants, a key's characters, and the compiled documents that are kept
  pub tenants : ℕ
  pub key_characters : ℕ
  pub capacity : ℕ

-- those of every answer that is given
abbrev pub limits : Limits
limits = record {
  schema_nesting = 120;
  bundle_nesting = 120;
  body_bytes = 1048576;
  bundle_bytes = 1048576;
  entries = 64;
  nested_applications = 1000;
  applications = 100000;
  tenants = 64;
  key_characters = 64;
  capacity = 4096;
}
