mod Values
mod CallValues
mod Plain
mod Read
