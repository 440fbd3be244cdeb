-- What the contracts of `printing` cite, and the laws that callers go by.
pub mod Printed
