-- Promises: what the defaults are, what is hashed of a service, what the parts of types, messages
-- and layouts are, what their makers return, where the parts of a message lie and what layout holds
-- them, who may open them, and which types may be sent without a copy.
pub mod Blocks
pub mod Compatible
pub mod DefaultTypes
pub mod Defaults
pub mod GlobalSettings
pub mod HashWrites
pub mod Hashing
pub mod Layout
pub mod Parts
pub mod PlainTypes
pub mod SampleLayoutParts
pub mod TypeDetailParts
pub mod TypeDetails
-- An inner fact: what an implementation of `ZeroCopySend` gives for its law.
pub mod TypeLayouts
